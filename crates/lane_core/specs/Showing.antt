-- What a core shows of a state, and the line that a step of one of its lanes is.
use Rattle.std.specs.Prelude.{◌≡◌, ℕ, nat_lt, if◌then◌else◌, List, length, take, slice_get, slice_index, Some}
use Rattle.lane_core.specs.declared.history.Entry.{Entry}
use Rattle.lane_core.specs.declared.lane.Lane.{Lane}
use Rattle.lane_core.specs.declared.now.LaneNow.{LaneNow}
use Rattle.lane_core.specs.declared.phase.Phase.{Phase}
use Rattle.lane_core.specs.declared.phase.Phase.TheVariants.{Staging, Staged, Reading}
use Rattle.lane_core.specs.declared.shape.Shape.{Shape}
use Rattle.lane_core.specs.Machine.{State, data_store, data_keep}
use Rattle.lane_core.specs.Invariant.{stored}
use Rattle.lane_core.specs.Runs.{stepped, took}
use Rattle.lane_core.specs.Places.{Shows, geometry}
use Rattle.lane_core.specs.Rows.{RowWords, IsRow}

-- how many words a read has loaded
abbrev pub loads : Phase → ℕ
loads (Reading k) = k
loads _ = 0

-- a lane of a core in a phase, with a log. What it has of its call's words is what it has stored,
-- or loaded
abbrev pub lane_at : ℕ → LaneNow → Phase → List Entry → Lane
lane_at width p phase log = record {
  block = p.block;
  side = p.side;
  half = p.half;
  phase = phase;
  tag = p.tag;
  sector = p.sector;
  words = take (stored width phase) p.words;
  loaded = p.loaded;
  got = take (loads phase) p.words;
  log = log;
}

abbrev pub lane_of : ℕ → LaneNow → List Entry → Lane
lane_of width p log = lane_at width p p.phase log

-- the words, the lanes and the history of a core are those of a state. A lane's log isn't kept: it
-- follows from the history
pub record Shown (x : Shape) (row : RowWords) (lanes : List LaneNow) (entries : List Entry) (s : State) : Type 0 where
  pub row_is : IsRow x row
  pub count : length lanes ≡ x.lanes
  pub words : Shows x row.words s
  pub each : (l : ℕ) (p : LaneNow) → slice_get lanes l ≡ Some p → s.lanes l ≡ lane_of x.width p (s.lanes l).log
  pub history : s.history ≡ entries

-- the line of a lane's phase, with the words and the tag of its call
abbrev pub line_of : Shape → State → ℕ → LaneNow → Phase → State
line_of x s l p (Staging k) = if nat_lt k x.width then data_store (geometry x) s l k (slice_index p.words k) else data_keep (geometry x) s l k
line_of x s l p Staged = took (geometry x) s l p.next p.next_sector Staged
line_of x s l p phase = stepped (geometry x) s l phase
