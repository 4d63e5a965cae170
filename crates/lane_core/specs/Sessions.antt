-- What the lanes of a core do for sessions: whose call each lane is in, what it will still do, and
-- the least number of steps it has made.
use Rattle.std.specs.Prelude.{◌≡◌, ◌≢◌, ◌⊎◌, ℕ, ◌+◌, ◌-◌, ◌*◌, ◌<◌, ◌≤◌, ◌==◌, ◌&&◌, not, if◌then◌else◌, Bool, true, false, List, [], ◌∷◌, ◌++◌, filter, slice_get, Option, Some, None, Any}
use Rattle.nvd_words.specs.declared.tag.Tag.{Tag}
use Rattle.arena_open.specs.declared.cell.Cell.{Cell}
use Rattle.arena_open.specs.declared.cell.Cell.TheVariants as cell
use Rattle.lane_core.specs.declared.history.Act.{Act}
use Rattle.lane_core.specs.declared.history.Act.TheVariants as act
use Rattle.lane_core.specs.declared.history.Entry.{Entry}
use Rattle.lane_core.specs.declared.in_call.InCall.{InCall}
use Rattle.lane_core.specs.declared.machine.Core.{Core}
use Rattle.lane_core.specs.declared.now.LaneNow.{LaneNow}
use Rattle.lane_core.specs.declared.phase.Phase.{Phase}
use Rattle.lane_core.specs.declared.phase.Phase.TheVariants.{Idle, Scanning, Staging, Staged, Locked, Known, LogAStored, LogA, LogBStored, Logged, Switched, Kept, Called, Looking, Published, Moved, Reading}
use Rattle.lane_core.specs.declared.shape.Shape.{Shape}
use Rattle.lane_core.specs.declared.stepped.Answer.TheVariants as answer
use Rattle.lane_core.specs.declared.stepped.Stepped.TheVariants as stepped
use Rattle.lane_core.specs.After.{answer_after, lane_after, wants_lock}
use Rattle.lane_core.specs.Rows.{RowWords}
use Rattle.lane_core.specs.Begins.{is_idle}
use Rattle.lane_core.specs.Held.{Held}
use Rattle.lane_core.specs.History.{Cells, changes_nothing, end_of, of_session, IsLegal}
use Rattle.lane_core.specs.Invariant.{is_reading}
use Rattle.lane_core.specs.Reopening.{MaySurvive}

-- ---- the lanes in calls

-- the call of a lane in a phase, and its sector. Up to the lock a write has both in `next`
abbrev pub tag_in : LaneNow → Phase → Tag
tag_in p phase = if wants_lock phase then p.next else p.tag

abbrev pub sector_in : LaneNow → Phase → ℕ
sector_in p phase = if wants_lock phase then p.next_sector else p.sector

abbrev pub tag_of : LaneNow → Tag
tag_of p = tag_in p p.phase

abbrev pub sector_of : LaneNow → ℕ
sector_of p = sector_in p p.phase

-- a write whose map word isn't stored yet
abbrev pub is_unfinished : Phase → Bool
is_unfinished (Scanning j) = true
is_unfinished (Staging k) = true
is_unfinished Staged = true
is_unfinished Locked = true
is_unfinished Known = true
is_unfinished LogAStored = true
is_unfinished LogA = true
is_unfinished LogBStored = true
is_unfinished Logged = true
is_unfinished _ = false

-- a write that stands, and isn't answered yet
abbrev pub is_entered : Phase → Bool
is_entered Switched = true
is_entered Kept = true
is_entered _ = false

abbrev pub act_of : LaneNow → Option Act
act_of p = if is_unfinished p.phase then Some (act.Write p.words) else None

-- the steps of a write before it tries its lock
abbrev pub staged_steps : Shape → ℕ
staged_steps x = x.lanes - 1 + 2 * x.width

-- The least number of steps that a lane in this phase has made for its call. It made more if it
-- scanned or looked again, or waited for its lock.
abbrev pub least_steps : Shape → Phase → ℕ
least_steps x Idle = 0
least_steps x (Scanning j) = j
least_steps x (Staging k) = x.lanes - 1 + k
least_steps x Staged = staged_steps x
least_steps x Locked = staged_steps x + 1
least_steps x Known = staged_steps x + 2
least_steps x LogAStored = staged_steps x + 3
least_steps x LogA = staged_steps x + 4
least_steps x LogBStored = staged_steps x + 5
least_steps x Logged = staged_steps x + 6
least_steps x Switched = staged_steps x + 7
least_steps x Kept = staged_steps x + 8
least_steps x Called = 0
least_steps x Looking = 1
least_steps x Published = 2
least_steps x Moved = 3
least_steps x (Reading k) = 3 + k

-- the least number of steps of a write, and of a read of a sector that has a block
abbrev pub write_steps : Shape → ℕ
write_steps x = staged_steps x + 9

abbrev pub read_steps : Shape → ℕ
read_steps x = x.width + 4

-- a law: a step adds one at most; an answered write made its least number of steps, and an answered
-- read made its own or looked once
abbrev pub StepsArePaid : Type 0
StepsArePaid =
    (x : Shape) (row : RowWords) (l : ℕ) (p : LaneNow) → (least_steps x (lane_after x l row p p.phase).phase ≤ least_steps x p.phase + 1)
    × ((tag : Tag) → answer_after x l row p p.phase ≡ stepped.Done tag answer.Wrote → least_steps x p.phase + 1 ≡ write_steps x)
    × ((tag : Tag) (found : Cell) → answer_after x l row p p.phase ≡ stepped.Done tag (answer.Got found) → (p.phase ≡ Called) ⊎ (read_steps x ≤ least_steps x p.phase + 1))

abbrev pub in_call : Shape → ℕ → LaneNow → InCall
in_call x l p = record { lane = l; tag = tag_of p; sector = sector_of p; act = act_of p; steps = least_steps x p.phase; entered = is_entered p.phase }

-- the lanes in calls, the first of which has a number
abbrev pub calls_from : Shape → ℕ → List LaneNow → List InCall
calls_from x l [] = []
calls_from x l (p ∷ ps) = (if is_idle p.phase then [] else in_call x l p ∷ []) ++ calls_from x (l + 1) ps

abbrev pub calls_in : Held → List InCall
calls_in held = calls_from held.shape 0 held.lanes

-- ---- their sectors after a power cut

-- the cell that an unfinished call may leave; a further kind of act is a further line
abbrev pub MayLeave : Act → Cell → Type 0
MayLeave (act.Read seen) left = ⊥
MayLeave (act.Write words) left = left ≡ cell.Bytes words

-- a call that doesn't stand yet may have left this cell
abbrev pub IsFlying : ℕ → Cell → InCall → Type 0
IsFlying sector left c = (a : Act) × (c.act ≡ Some a) × (c.sector ≡ sector) × (c.entered ≡ false) × MayLeave a left

-- each of this many sectors has its cell at the end of the history, or one that a call may have
-- left
abbrev pub CoreSurvives : Cells → List Entry → List InCall → ℕ → Cells → Type 0
CoreSurvives first history calls count left = (sector : ℕ) → sector < count → (left sector ≡ end_of first history sector) ⊎ Any (IsFlying sector (left sector)) calls

-- a law: a cell that may survive is at the end of the history, or one that a call may have left
abbrev pub SurvivorsAreCalls : Type 0
SurvivorsAreCalls = (first : Cells) (held : Held) (left : Cells) → ((t : ℕ) → t < held.shape.sectors → MaySurvive first held t (left t))
    → CoreSurvives first held.entries (calls_in held) held.shape.sectors left

-- ---- one call of a session at a time

-- no lane is in a call of the session
abbrev pub IsFree : ℕ → List LaneNow → Type 0
IsFree session lanes = (i : ℕ) (p : LaneNow) → slice_get lanes i ≡ Some p → is_idle p.phase ≡ false → (tag_of p).session ≢ session

-- at most one lane is in a call of each session
abbrev pub OneCallEach : List LaneNow → Type 0
OneCallEach lanes =
    (i j : ℕ) (p q : LaneNow) → slice_get lanes i ≡ Some p → slice_get lanes j ≡ Some q → is_idle p.phase ≡ false → is_idle q.phase ≡ false
    → (tag_of p).session ≡ (tag_of q).session → i ≡ j

-- the last entry of a session is this lane's
pub record IsLast (history : List Entry) (lane : ℕ) (tag : Tag) : Type 0 where
  pub before : List Entry
  pub entry : Entry
  pub is : of_session tag.session history ≡ before ++ entry ∷ []
  pub lane_is : entry.lane ≡ lane
  pub tag_is : entry.tag ≡ tag

-- while a lane loads the words of a read, no later entry of its session stands
abbrev pub NoneBehind : List LaneNow → List Entry → Type 0
NoneBehind lanes history = (i : ℕ) (p : LaneNow) → slice_get lanes i ≡ Some p → is_reading p.phase ≡ true → IsLast history i p.tag

-- each session has one call at a time
pub record IsServed (lanes : List LaneNow) (history : List Entry) : Type 0 where
  pub one : OneCallEach lanes
  pub none_behind : NoneBehind lanes history

abbrev pub ServesSessions : Core → Type 0
ServesSessions core = IsServed core.lanes.items core.history.entries

-- ---- the history without the reads that aren't answered

abbrev pub same_tag : Tag → Tag → Bool
same_tag a b = (a.session == b.session) && (a.call == b.call)

-- the entry is that of a read whose words its lane, which stands there, still loads
abbrev pub is_open_in : Option LaneNow → Entry → Bool
is_open_in None e = false
is_open_in (Some p) e = is_reading p.phase && same_tag e.tag p.tag && changes_nothing e.act

abbrev pub is_open_read : List LaneNow → Entry → Bool
is_open_read lanes e = is_open_in (slice_get lanes e.lane) e

abbrev pub answered_in : List LaneNow → List Entry → List Entry
answered_in lanes history = filter (λ e. not (is_open_read lanes e)) history

-- a law: it is legal, and has the same end
abbrev pub OpenReadsMayGo : Type 0
OpenReadsMayGo = (first : Cells) (lanes : List LaneNow) (history : List Entry) → IsLegal first history
    → IsLegal first (answered_in lanes history) × (end_of first (answered_in lanes history) ≡ end_of first history)
