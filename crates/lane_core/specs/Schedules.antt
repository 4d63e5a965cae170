-- What steps and calls do to a core, as a function of what the core holds. A schedule of lanes is a
-- list of them.
use Rattle.std.specs.Prelude.{◌≡◌, ℕ, ◌<◌, ◌≤◌, Bool, true, false, if◌then◌else◌, List, [], ◌∷◌, ◌++◌, length, map, replicate, slice_get, slice_set, Option, Some, None}
use Rattle.std.specs.List.{AllByRecursion}
use Rattle.arena_open.specs.declared.cell.Cell.{Cell}
use Rattle.arena_open.specs.declared.state.ArenaState.{ArenaState}
use Rattle.arena_open.specs.Moves.{IsOpenState}
use Rattle.cut_words.specs.Words.{IsLeft}
use Rattle.nvd_words.specs.declared.tag.Tag.{Tag}
use Rattle.lane_core.specs.declared.call.Call.{Call}
use Rattle.lane_core.specs.declared.call.Call.TheVariants as call
use Rattle.lane_core.specs.declared.history.Act.{Act}
use Rattle.lane_core.specs.declared.history.Act.TheVariants as act
use Rattle.lane_core.specs.declared.history.Entry.{Entry}
use Rattle.lane_core.specs.declared.machine.Core.{Core}
use Rattle.lane_core.specs.declared.now.LaneNow.{LaneNow}
use Rattle.lane_core.specs.declared.phase.Phase.{Phase}
use Rattle.lane_core.specs.declared.phase.Phase.TheVariants.{Switched, Kept, Called, Looking, Published, Moved, Reading}
use Rattle.lane_core.specs.declared.shape.Shape.{Shape}
use Rattle.lane_core.specs.declared.stepped.Answer.{Answer}
use Rattle.lane_core.specs.declared.stepped.Answer.TheVariants as answer
use Rattle.lane_core.specs.declared.stepped.Stepped.{Stepped}
use Rattle.lane_core.specs.declared.stepped.Stepped.TheVariants as stepped
use Rattle.lane_core.specs.After.{answer_after, lane_after, past_after, row_after}
use Rattle.lane_core.specs.Areas.{put}
use Rattle.lane_core.specs.Arenas.{shape_in}
use Rattle.lane_core.specs.Begins.{is_idle, read_begun, write_begun, CallBegins}
use Rattle.lane_core.specs.Held.{Held, held_by, recorded}
use Rattle.lane_core.specs.History.{IsLegal, of_lane}
use Rattle.lane_core.specs.Idle.{idle_of}
use Rattle.lane_core.specs.Machines.{IsFresh, StepsOnce}
use Rattle.lane_core.specs.Reopening.{MaySurvive, Reopens, first_cells}
use Rattle.lane_core.specs.Rows.{new_row, words_in}
use Rattle.lane_core.specs.Sessions.{is_unfinished, sector_in, tag_in}

-- what a lane is asked: to begin to read a sector, to begin to write these words to it, or to make
-- one step
pub data Asked : Type 0 where
  Read : (lane : ℕ) (tag : Tag) (sector : ℕ) → Asked
  Write : (lane : ℕ) (tag : Tag) (sector : ℕ) (words : List ℕ) → Asked
  Step : (lane : ℕ) → Asked

-- a call that a lane is asked
abbrev pub asks : ℕ → Tag → Call → Asked
asks lane tag (call.Read sector) = Read lane tag sector
asks lane tag (call.Write sector words) = Write lane tag sector words.items

-- the sector is one of the arena's, and a value has as many words as a sector
abbrev pub FitsShape : Shape → Asked → Type 0
FitsShape x (Read lane tag sector) = sector < x.sectors
FitsShape x (Write lane tag sector words) = (sector < x.sectors) × (length words ≡ x.width)
FitsShape x (Step lane) = Unit {0}

-- ---- what a core holds afterwards

abbrev pub zeros : Shape → List ℕ
zeros x = replicate x.width 0

module _ (held : Held) (l : ℕ) where
  -- lane l, which is p, made its step
  abbrev pub lane_stepped : LaneNow → Held
  lane_stepped p = record {
    shape = held.shape;
    row = row_after held.shape l held.row p p.phase;
    lanes = slice_set held.lanes l (lane_after held.shape l held.row p p.phase);
    entries = (past_after held.shape l held.row p (recorded held.entries 0) p.phase).entries;
  }

  abbrev pub with_lane : LaneNow → Held
  with_lane q = record held { lanes = slice_set held.lanes l q }

  -- a call begins in lane l, which is p, if that is idle
  abbrev pub lane_begun : (LaneNow → LaneNow) → LaneNow → Held
  lane_begun begun p = if is_idle p.phase then with_lane (begun p) else held

-- nothing happens if there is no such lane
abbrev pub if_there : Held → (LaneNow → Held) → Option LaneNow → Held
if_there held f None = held
if_there held f (Some p) = f p

abbrev pub held_after : Held → Asked → Held
held_after held (Read l tag sector) = if_there held (lane_begun held l (λ p. read_begun p tag sector (zeros held.shape) (zeros held.shape))) (slice_get held.lanes l)
held_after held (Write l tag sector words) = if_there held (lane_begun held l (λ p. write_begun held.shape p tag sector words)) (slice_get held.lanes l)
held_after held (Step l) = if_there held (lane_stepped held l) (slice_get held.lanes l)

abbrev pub answer_by : Held → ℕ → Option LaneNow → Stepped
answer_by held l None = stepped.Nothing
answer_by held l (Some p) = answer_after held.shape l held.row p p.phase

-- what a step of a lane answers
abbrev pub answer_in : Held → ℕ → Stepped
answer_in held l = answer_by held l (slice_get held.lanes l)

-- a core of an arena before its first call
abbrev pub opened_held : ArenaState → Held
opened_held state = record { shape = shape_in state; row = new_row state.words state.info.layout.lanes; lanes = map idle_of state.lanes; entries = [] }

-- ---- a law: so do a core's own calls

pub record CoreIsHeld : Type 0 where
  pub fresh : (state : ArenaState) (core : Core) → IsFresh state core → held_by core ≡ opened_held state
  pub steps : (old new : Core) (l : ℕ) (p : LaneNow) (result : Stepped) → slice_get old.lanes.items l ≡ Some p → StepsOnce old new l p result
      → (held_by new ≡ held_after (held_by old) (Step l)) × (result ≡ answer_in (held_by old) l)
  pub begins : (old new : Core) (l : ℕ) (p : LaneNow) (tag : Tag) (c : Call) → slice_get old.lanes.items l ≡ Some p → is_idle p.phase ≡ true → CallBegins old new l tag c
      → held_by new ≡ held_after (held_by old) (asks l tag c)
  pub refused : (old : Core) (l : ℕ) (p : LaneNow) (tag : Tag) (c : Call) → slice_get old.lanes.items l ≡ Some p → is_idle p.phase ≡ false
      → held_after (held_by old) (asks l tag c) ≡ held_by old

-- ---- a list of these, one after another

-- a call that was answered
pub record Told : Type 0 where
  pub asked : Asked
  pub tag : Tag
  pub answer : Answer

abbrev pub lane_asked : Asked → ℕ
lane_asked (Read lane tag sector) = lane
lane_asked (Write lane tag sector words) = lane
lane_asked (Step lane) = lane

abbrev pub sector_asked : Asked → ℕ
sector_asked (Read lane tag sector) = sector
sector_asked (Write lane tag sector words) = sector
sector_asked (Step lane) = 0

abbrev pub words_asked : Asked → List ℕ
words_asked (Write lane tag sector words) = words
words_asked _ = []

-- a read did what it answers, and a write what it was asked
abbrev pub act_told : Asked → Answer → Act
act_told asked (answer.Got cell) = act.Read cell
act_told asked answer.Wrote = act.Write (words_asked asked)

-- the entry that an answer has in the history
abbrev pub entry_told : Told → Entry
entry_told t = record { lane = lane_asked t.asked; tag = t.tag; sector = sector_asked t.asked; act = act_told t.asked t.answer }

abbrev pub told : Asked → Tag → Answer → Told
told asked tag said = record { asked = asked; tag = tag; answer = said }

-- a call is answered under its own tag: a read with a cell
abbrev pub IsAnswer : Tag → Answer → Asked → Type 0
IsAnswer own said (Read lane tag sector) = (own ≡ tag) × ((cell : Cell) × (said ≡ answer.Got cell))
IsAnswer own said (Write lane tag sector words) = (own ≡ tag) × (said ≡ answer.Wrote)
IsAnswer own said (Step lane) = ⊥

abbrev pub IsTold : Told → Type 0
IsTold t = IsAnswer t.tag t.answer t.asked

-- what a core holds, the call that each lane began last, and the calls that were answered, in the
-- order of their answers
pub record Played : Type 0 where
  pub held : Held
  pub calls : ℕ → Asked
  pub answers : List Told

-- a step of the lane of a call told this
abbrev pub told_after : List Told → Asked → Stepped → List Told
told_after answers asked (stepped.Done tag said) = answers ++ told asked tag said ∷ []
told_after answers asked stepped.Nothing = answers
told_after answers asked (stepped.Went step) = answers

abbrev pub can_begin : Option LaneNow → Bool
can_begin None = false
can_begin (Some p) = is_idle p.phase

abbrev pub calls_after : (ℕ → Asked) → ℕ → Asked → Bool → ℕ → Asked
calls_after calls l asked can = if can then put calls l asked else calls

abbrev pub played_one : Played → Asked → Played
played_one now (Read l tag sector) = record {
  held = held_after now.held (Read l tag sector);
  calls = calls_after now.calls l (Read l tag sector) (can_begin (slice_get now.held.lanes l));
  answers = now.answers;
}
played_one now (Write l tag sector words) = record {
  held = held_after now.held (Write l tag sector words);
  calls = calls_after now.calls l (Write l tag sector words) (can_begin (slice_get now.held.lanes l));
  answers = now.answers;
}
played_one now (Step l) = record {
  held = held_after now.held (Step l);
  calls = now.calls;
  answers = told_after now.answers (now.calls l) (answer_in now.held l);
}

unfoldable pub played : Played → List Asked → Played
played now [] = now
played now (a ∷ more) = played (played_one now a) more

-- from an arena that was opened. Before its first call a lane was asked nothing but steps
abbrev pub scheduled : ArenaState → List Asked → Played
scheduled state asked = played (record { held = opened_held state; calls = λ l. Step l; answers = [] }) asked

-- ---- a law: a list from an opened arena stands

abbrev pub is_read : Phase → Bool
is_read Called = true
is_read Looking = true
is_read Published = true
is_read Moved = true
is_read (Reading k) = true
is_read _ = false

abbrev pub is_write : Phase → Bool
is_write Switched = true
is_write Kept = true
is_write phase = is_unfinished phase

-- a lane in this phase is in this call; a write has its words until they stand
abbrev pub IsInCall : ℕ → LaneNow → Phase → Asked → Type 0
IsInCall l p phase (Read lane tag sector) = (lane ≡ l) × (tag_in p phase ≡ tag) × (sector_in p phase ≡ sector) × (is_read phase ≡ true)
IsInCall l p phase (Write lane tag sector words) =
    (lane ≡ l) × (tag_in p phase ≡ tag) × (sector_in p phase ≡ sector) × (is_write phase ≡ true) × (is_unfinished phase ≡ true → p.words ≡ words)
IsInCall l p phase (Step lane) = ⊥

-- what stands of a call that isn't answered: a write from the store of its map word on, and a read
-- whose words are loaded
abbrev pub IsOpenIn : Asked → Tag → Phase → List Entry → Type 0
IsOpenIn asked tag Switched rest = rest ≡ entry_told (told asked tag answer.Wrote) ∷ []
IsOpenIn asked tag Kept rest = rest ≡ entry_told (told asked tag answer.Wrote) ∷ []
IsOpenIn asked tag (Reading k) rest = (cell : Cell) × (rest ≡ entry_told (told asked tag (answer.Got cell)) ∷ [])
IsOpenIn asked tag _ rest = rest ≡ []

-- a lane's entries in a history are those of its answered calls, in order, and what stands of the
-- one that it is in
pub record LaneStands (l : ℕ) (p : LaneNow) (entries : List Entry) (answers : List Told) (asked : Asked) : Type 0 where
  pub in_call : is_idle p.phase ≡ false → IsInCall l p p.phase asked
  pub rest : List Entry
  pub entries_are : of_lane l entries ≡ of_lane l (map entry_told answers) ++ rest
  pub rest_is : IsOpenIn asked p.tag p.phase rest

-- The history is legal from the arena's cells. It has each answer once, and besides only the
-- entries of running calls that stand. After every power cut the words open again as the same
-- arena, each sector with a cell that may survive.
pub record Stands (state : ArenaState) (now : Played) : Type 0 where
  pub legal : IsLegal (first_cells state) now.held.entries
  pub answered : AllByRecursion IsTold now.answers
  pub lanes : (l : ℕ) (p : LaneNow) → slice_get now.held.lanes l ≡ Some p → LaneStands l p now.held.entries now.answers (now.calls l)
  pub no_other : (l : ℕ) → length now.held.lanes ≤ l → of_lane l now.held.entries ≡ []
  pub survives : (left : List ℕ) → IsLeft (words_in now.held.row) left → Reopens state (MaySurvive (first_cells state) now.held) left

abbrev pub SchedulesStand : Type 0
SchedulesStand = (state : ArenaState) (asked : List Asked) → IsOpenState state → AllByRecursion (FitsShape (shape_in state)) asked → Stands state (scheduled state asked)
