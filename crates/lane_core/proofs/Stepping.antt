-- One step of a core.
use Rattle.std.proofs.Common.{◌≡◌, ℕ, ◌<◌, List, length, get_or, slice_get, slice_set, Some, refl, sym, ap, ◌∙◌, subst}
use Rattle.std.proofs.lemmas.Option.{slice_get-get_or}
use Rattle.lane_core.specs.declared.now.LaneNow.{LaneNow}
use Rattle.lane_core.specs.declared.shape.Shape.{Shape}
use Rattle.lane_core.specs.History.{Cells}
use Rattle.lane_core.specs.Machine.{State}
use Rattle.lane_core.specs.Rows.{RowWords, Recorded}
use Rattle.lane_core.specs.After.{lane_after, past_after, row_after}
use Rattle.lane_core.specs.Showing.{Shown, line_of}
use Rattle.lane_core.specs.Cores.{ShowsSound}
use Rattle.lane_core.proofs.Cores.{ready, stepped_core}
use Rattle.lane_core.proofs.Simulated.{line_at}

-- the lane that is borrowed is the one that stands there
pub lane_there : (lanes : List LaneNow) (l : ℕ) (p : LaneNow) → l < length lanes → p ≡ get_or lanes l p → slice_get lanes l ≡ Some p
lane_there lanes l p lt e = slice_get-get_or lanes l p lt ∙ ap Some (sym e)

pub there_is : {a b : LaneNow} → Some a ≡ Some b → a ≡ b
there_is e = cc

-- what the parts are after a step
pub stepped_parts : (x : Shape) (row row' : RowWords) (lanes : List LaneNow) (past past' : Recorded) (o : Cells) (s : State) (l : ℕ) (p q : LaneNow) → ShowsSound x row lanes past o s → slice_get lanes l ≡ Some p
    → row' ≡ row_after x l row p p.phase → q ≡ lane_after x l row p p.phase → past' ≡ past_after x l row p past p.phase → ShowsSound x row' (slice_set lanes l q) past' o (line_of x s l p p.phase)
stepped_parts x row row' lanes past past' o s l p q h at er eq ep =
    subst (λ r. ShowsSound x r (slice_set lanes l q) past' o (line_of x s l p p.phase)) (sym er)
    (subst (λ q. ShowsSound x (row_after x l row p p.phase) (slice_set lanes l q) past' o (line_of x s l p p.phase)) (sym eq)
    (subst (λ past'. ShowsSound x (row_after x l row p p.phase) (slice_set lanes l (lane_after x l row p p.phase)) past' o (line_of x s l p p.phase)) (sym ep)
    (stepped_core x row lanes past o s l p h at)))

pub line_shown : (x : Shape) (row row' : RowWords) (lanes : List LaneNow) (past past' : Recorded) (o : Cells) (s0 s : State) (l : ℕ) (p q : LaneNow) → ShowsSound x row lanes past o s0 → slice_get lanes l ≡ Some p
    → row' ≡ row_after x l row p p.phase → q ≡ lane_after x l row p p.phase → past' ≡ past_after x l row p past p.phase → Shown x row lanes past.entries s → Shown x row' (slice_set lanes l q) past'.entries (line_of x s l p p.phase)
line_shown x row row' lanes past past' o s0 s l p q h at er eq ep shown =
    subst (λ r. Shown x r (slice_set lanes l q) past'.entries (line_of x s l p p.phase)) (sym er)
    (subst (λ q. Shown x (row_after x l row p p.phase) (slice_set lanes l q) past'.entries (line_of x s l p p.phase)) (sym eq)
    (subst (λ (past' : Recorded). Shown x (row_after x l row p p.phase) (slice_set lanes l (lane_after x l row p p.phase)) past'.entries (line_of x s l p p.phase)) (sym ep)
    (line_at x row lanes past s l p h.shape shown at (ready x row lanes past o s0 l p h at) p.phase refl)))
