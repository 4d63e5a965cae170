-- The calls of a core do to what it holds what the definitions say.
use Rattle.std.proofs.Common.{◌≡◌, ℕ, if◌then◌else◌, Bool, true, false, [], ◌∷◌, ◌++◌, length, replicate, slice_get, Some, refl, sym, ap, ◌∙◌}
use Rattle.map_table.specs.declared.kinds.Kind.{Kind}
use Rattle.map_table.specs.declared.kinds.Kind.TheVariants as kind
use Rattle.nvd_words.specs.declared.tag.Tag.{Tag}
use Rattle.arena_open.specs.declared.cell.Cell.TheVariants as cell
use Rattle.arena_open.specs.declared.state.ArenaState.{ArenaState}
use Rattle.lane_core.specs.declared.call.Call.{Call}
use Rattle.lane_core.specs.declared.call.Call.TheVariants as call
use Rattle.lane_core.specs.declared.machine.Core.{Core}
use Rattle.lane_core.specs.declared.now.LaneNow.{LaneNow}
use Rattle.lane_core.specs.declared.phase.Phase.{Phase}
use Rattle.lane_core.specs.declared.phase.Phase.TheVariants.{Logged, Called, Published}
use Rattle.lane_core.specs.declared.shape.Shape.{Shape}
use Rattle.lane_core.specs.declared.stepped.Stepped.{Stepped}
use Rattle.lane_core.specs.After.{cell_found, is_unmoved, kind_found, past_after, past_looked}
use Rattle.lane_core.specs.Begins.{is_idle, read_begun, write_begun, CallBegins}
use Rattle.lane_core.specs.Held.{Held, held_by}
use Rattle.lane_core.specs.Lines.{read_now, wrote_now}
use Rattle.lane_core.specs.Machines.{IsFresh, StepsOnce}
use Rattle.lane_core.specs.Schedules.{Step, CoreIsHeld, answer_by, answer_in, asks, held_after, if_there, lane_begun, lane_stepped, opened_held, with_lane, zeros}
use Rattle.lane_core.specs.Rows.{Recorded, RowWords, grown}

held_same : (a b : Held) → a.shape ≡ b.shape → a.row ≡ b.row → a.lanes ≡ b.lanes → a.entries ≡ b.entries → a ≡ b
held_same a b x r l e = λ i. record { shape = x i; row = r i; lanes = l i; entries = e i }

-- the entries after a step don't depend on the room
module _ (x : Shape) (l : ℕ) (row : RowWords) (p : LaneNow) (a b : Recorded) (same : a.entries ≡ b.entries) where
  looked_entries : (k : Kind) → (past_looked x l row p a k).entries ≡ (past_looked x l row p b k).entries
  looked_entries kind.Zero = ap (λ es. es ++ read_now l p (cell.Bytes (replicate (length p.cell) 0)) ∷ []) same
  looked_entries kind.Bad = ap (λ es. es ++ read_now l p cell.Bad ∷ []) same
  looked_entries kind.Initial = same
  looked_entries kind.Normal = same

  published_entries : (past_after x l row p a Published).entries ≡ (past_after x l row p b Published).entries
  published_entries = by (is_unmoved x l row p)
    where
      by : (b' : Bool) → (if b' then grown a (read_now l p (cell_found x l row p)) else a).entries ≡ (if b' then grown b (read_now l p (cell_found x l row p)) else b).entries
      by true = ap (λ es. es ++ read_now l p (cell_found x l row p) ∷ []) same
      by false = same

  pub entries_after : (ph : Phase) → (past_after x l row p a ph).entries ≡ (past_after x l row p b ph).entries
  entries_after Logged = ap (λ es. es ++ wrote_now l p ∷ []) same
  entries_after Called = looked_entries (kind_found x l row p)
  entries_after Published = published_entries
  entries_after _ = same

-- ---- a core's own calls

fresh_is : (state : ArenaState) (core : Core) → IsFresh state core → held_by core ≡ opened_held state
fresh_is state core f = held_same (held_by core) (opened_held state) f.shape f.row f.lanes f.history

step_is : (old new : Core) (l : ℕ) (p : LaneNow) (result : Stepped) → slice_get old.lanes.items l ≡ Some p → StepsOnce old new l p result
    → (held_by new ≡ held_after (held_by old) (Step l)) × (result ≡ answer_in (held_by old) l)
step_is old new l p result at h = (
  held_same (held_by new) (lane_stepped (held_by old) l p) h.shape h.row h.lanes
      (ap (λ (r : Recorded). r.entries) h.history ∙ entries_after old.shape l old.row p old.history (record { entries = old.history.entries; room = 0 }) refl p.phase)
      ∙ sym (ap (if_there (held_by old) (lane_stepped (held_by old) l)) at),
  h.answer ∙ sym (ap (answer_by (held_by old) l) at),
)

-- an idle lane begins
begun_is : (old : Held) (l : ℕ) (p : LaneNow) (f : LaneNow → LaneNow) → slice_get old.lanes l ≡ Some p → is_idle p.phase ≡ true → if_there old (lane_begun old l f) (slice_get old.lanes l) ≡ with_lane old l (f p)
begun_is old l p f at idle = ap (if_there old (lane_begun old l f)) at ∙ ap (λ b. if b then with_lane old l (f p) else old) idle

begin_is : (old new : Core) (l : ℕ) (p : LaneNow) (tag : Tag) (c : Call) → slice_get old.lanes.items l ≡ Some p → is_idle p.phase ≡ true → CallBegins old new l tag c
    → held_by new ≡ held_after (held_by old) (asks l tag c)
begin_is old new l p tag (call.Read sector) at idle h =
    let f : LaneNow → LaneNow = λ p. read_begun p tag sector (zeros old.shape) (zeros old.shape) in
    held_same (held_by new) (with_lane (held_by old) l (f p)) h.rest.shape h.rest.row (h.lanes p at) h.rest.entries ∙ sym (begun_is (held_by old) l p f at idle)
begin_is old new l p tag (call.Write sector words) at idle h =
    let f : LaneNow → LaneNow = λ p. write_begun old.shape p tag sector words.items in
    held_same (held_by new) (with_lane (held_by old) l (f p)) h.rest.shape h.rest.row (h.lanes p at) h.rest.entries ∙ sym (begun_is (held_by old) l p f at idle)

-- a busy one doesn't
busy_is : (old : Held) (l : ℕ) (p : LaneNow) (f : LaneNow → LaneNow) → slice_get old.lanes l ≡ Some p → is_idle p.phase ≡ false → if_there old (lane_begun old l f) (slice_get old.lanes l) ≡ old
busy_is old l p f at busy = ap (if_there old (lane_begun old l f)) at ∙ ap (λ b. if b then with_lane old l (f p) else old) busy

refused_is : (old : Core) (l : ℕ) (p : LaneNow) (tag : Tag) (c : Call) → slice_get old.lanes.items l ≡ Some p → is_idle p.phase ≡ false → held_after (held_by old) (asks l tag c) ≡ held_by old
refused_is old l p tag (call.Read sector) at busy = busy_is (held_by old) l p (λ p. read_begun p tag sector (zeros old.shape) (zeros old.shape)) at busy
refused_is old l p tag (call.Write sector words) at busy = busy_is (held_by old) l p (λ p. write_begun old.shape p tag sector words.items) at busy

pub core_is_held : CoreIsHeld
core_is_held = record { fresh = fresh_is; steps = step_is; begins = begin_is; refused = refused_is }
