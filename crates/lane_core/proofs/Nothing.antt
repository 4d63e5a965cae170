-- Nothing comes exactly for an idle lane.
use Rattle.std.proofs.Common.{◌≡◌, ℕ, nat_lt, if◌then◌else◌, Bool, true, false, refl, sym, ap, ◌∙◌}
use Rattle.map_table.specs.declared.kinds.Kind.{Kind}
use Rattle.map_table.specs.declared.kinds.Kind.TheVariants as kind
use Rattle.lane_core.specs.declared.now.LaneNow.{LaneNow}
use Rattle.lane_core.specs.declared.phase.Phase.{Phase}
use Rattle.lane_core.specs.declared.phase.Phase.TheVariants.{Idle, Scanning, Staging, Staged, Locked, Known, LogAStored, LogA, LogBStored, Logged, Switched, Kept, Called, Looking, Published, Moved, Reading}
use Rattle.lane_core.specs.declared.shape.Shape.{Shape}
use Rattle.lane_core.specs.declared.stepped.Stepped.{Stepped}
use Rattle.lane_core.specs.declared.stepped.Stepped.TheVariants as stepped
use Rattle.lane_core.specs.Rows.{RowWords}
use Rattle.lane_core.specs.After.{answer_after, answer_looked, kind_found}
use Rattle.lane_core.proofs.Put.{never}

is_nothing : Stepped → Bool
is_nothing stepped.Nothing = true
is_nothing (stepped.Went step) = false
is_nothing (stepped.Done tag answer) = false

module _ (x : Shape) (l : ℕ) (row : RowWords) (p : LaneNow) where
  looked_some : (k : Kind) → is_nothing (answer_looked x l row p k) ≡ false
  unfolding is_nothing
  looked_some kind.Zero = refl
  looked_some kind.Bad = refl
  looked_some kind.Initial = refl
  looked_some kind.Normal = refl

  chosen_some : (b : Bool) (u v : Stepped) → is_nothing u ≡ false → is_nothing v ≡ false → is_nothing (if b then u else v) ≡ false
  chosen_some true u v a c = a
  chosen_some false u v a c = c

  pub nothing_idle : (ph : Phase) → answer_after x l row p ph ≡ stepped.Nothing → ph ≡ Idle
  unfolding is_nothing
  nothing_idle Idle e = refl
  nothing_idle (Staging k) e = never (sym (chosen_some (nat_lt k x.width) _ _ refl refl) ∙ ap is_nothing e)
  nothing_idle (Reading k) e = never (sym (chosen_some (nat_lt k x.width) _ _ refl refl) ∙ ap is_nothing e)
  nothing_idle Called e = never (sym (looked_some (kind_found x l row p)) ∙ ap is_nothing e)
  nothing_idle (Scanning j) e = never (ap is_nothing e)
  nothing_idle Staged e = never (ap is_nothing e)
  nothing_idle Locked e = never (ap is_nothing e)
  nothing_idle Known e = never (ap is_nothing e)
  nothing_idle LogAStored e = never (ap is_nothing e)
  nothing_idle LogA e = never (ap is_nothing e)
  nothing_idle LogBStored e = never (ap is_nothing e)
  nothing_idle Logged e = never (ap is_nothing e)
  nothing_idle Switched e = never (ap is_nothing e)
  nothing_idle Kept e = never (ap is_nothing e)
  nothing_idle Looking e = never (ap is_nothing e)
  nothing_idle Published e = never (ap is_nothing e)
  nothing_idle Moved e = never (ap is_nothing e)
