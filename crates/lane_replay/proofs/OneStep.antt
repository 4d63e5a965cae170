-- One step of a lane: of a core, and of what it holds.
use Rattle.std.proofs.Common.{◌≡◌, ℕ, ◌<◌, List, slice_get, slice_set, Option, Some, None, refl, sym, ap, ◌∙◌, subst}
use Rattle.lane_core.specs.declared.history.Entry.{Entry}
use Rattle.lane_core.specs.declared.machine.Core.{Core}
use Rattle.lane_core.specs.declared.now.LaneNow.{LaneNow}
use Rattle.lane_core.specs.declared.phase.Phase.{Phase}
use Rattle.lane_core.specs.declared.shape.Shape.{Shape}
use Rattle.lane_core.specs.declared.stepped.Stepped.TheVariants as told
use Rattle.lane_core.specs.After.{lane_after, past_after, row_after}
use Rattle.lane_core.specs.Held.{Held, recorded}
use Rattle.lane_core.specs.Machines.{IsSomeCore}
use Rattle.lane_core.specs.Rows.{RowWords}
use Rattle.lane_core.specs.Schedules.{answer_by, if_there, lane_stepped, with_lane}
use Rattle.lane_core.proofs.Callings.{some_lane}
use Rattle.lane_core.proofs.Nothing.{nothing_idle}
use Rattle.lane_replay.specs.Lanes.{answered, lane_changed, phase_at, phase_by, stepped}
use Rattle.lane_replay.proofs.LaneLists.{set_same}

abbrev pub held_from : Shape → RowWords → List LaneNow → List Entry → Held
held_from x row lanes entries = record { shape = x; row = row; lanes = lanes; entries = entries }

-- the same parts make the same whole
pub same_held : {x x' : Shape} {row row' : RowWords} {lanes lanes' : List LaneNow} {entries entries' : List Entry} → x ≡ x' → row ≡ row' → lanes ≡ lanes' → entries ≡ entries'
    → held_from x row lanes entries ≡ held_from x' row' lanes' entries'
same_held a b c d = λ i. held_from (a i) (b i) (c i) (d i)

-- other lanes that are the same
pub same_lanes : (held : Held) (lanes : List LaneNow) → lanes ≡ held.lanes → held_from held.shape held.row lanes held.entries ≡ held
same_lanes held lanes e = ap (λ lanes. held_from held.shape held.row lanes held.entries) e

-- a lane of a core is there
pub core_lane : (core : Core) (l : ℕ) → IsSomeCore core → l < core.shape.lanes → (p : LaneNow) × (slice_get core.lanes.items l ≡ Some p)
core_lane core l h lt = some_lane core.lanes.items l (subst (λ n. l < n) (sym h.1.1.shown.count) lt)

-- lane l, which is p in this phase, made its step
abbrev pub step_in : Held → ℕ → LaneNow → Phase → Held
step_in held l p phase = held_from held.shape (row_after held.shape l held.row p phase) (slice_set held.lanes l (lane_after held.shape l held.row p phase)) (past_after held.shape l held.row p (recorded held.entries 0) phase).entries

-- ---- of a lane that is there

module _ (held : Held) (l : ℕ) (p : LaneNow) (at : slice_get held.lanes l ≡ Some p) where
  pub stepped_there : stepped held l ≡ step_in held l p p.phase
  unfolding stepped
  stepped_there = ap (if_there held (lane_stepped held l)) at

  pub answer_there : answered held l ≡ answer_by held l (Some p)
  unfolding answered
  answer_there = ap (answer_by held l) at

  pub phase_there : phase_at held l ≡ p.phase
  unfolding phase_at
  phase_there = ap phase_by at

  pub changed_there : (change : LaneNow → LaneNow) → lane_changed held l change ≡ with_lane held l (change p)
  unfolding lane_changed
  changed_there change = ap (if_there held (λ p. with_lane held l (change p))) at

-- ---- a step of an idle lane changes nothing

nothing_by : (held : Held) (l : ℕ) (o : Option LaneNow) → slice_get held.lanes l ≡ o → answer_by held l o ≡ told.Nothing → if_there held (lane_stepped held l) o ≡ held
nothing_by held l None at e = refl
nothing_by held l (Some p) at e =
    ap (step_in held l p) (nothing_idle held.shape l held.row p p.phase e) ∙ same_lanes held (slice_set held.lanes l p) (set_same held.lanes l p at)

pub nothing_keeps : (held : Held) (l : ℕ) → answered held l ≡ told.Nothing → stepped held l ≡ held
unfolding stepped answered
nothing_keeps held l e = nothing_by held l (slice_get held.lanes l) refl e
