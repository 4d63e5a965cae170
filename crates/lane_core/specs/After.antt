-- What one step of a lane of a core does, by the lane's phase: to the row, to the lane, to the
-- history, and what it answers.
use Rattle.std.specs.Prelude.{ℕ, ◌+◌, ◌-◌, ◌/◌, ◌==◌, nat_lt, if◌then◌else◌, Bool, true, false, [], length, slice_index, slice_set, take, drop, replicate, suc}
use Rattle.map_table.specs.Entry.{entry_in, with_entry}
use Rattle.map_table.specs.declared.kinds.Kind.{Kind}
use Rattle.map_table.specs.declared.kinds.Kind.TheVariants as kind
use Rattle.arena_open.specs.declared.cell.Cell.{Cell}
use Rattle.arena_open.specs.declared.cell.Cell.TheVariants as cell
use Rattle.lane_core.specs.declared.now.LaneNow.{LaneNow}
use Rattle.lane_core.specs.declared.phase.Phase.{Phase}
use Rattle.lane_core.specs.declared.phase.Phase.TheVariants.{Idle, Scanning, Staging, Staged, Locked, Known, LogAStored, LogA, LogBStored, Logged, Switched, Kept, Called, Looking, Published, Moved, Reading}
use Rattle.lane_core.specs.declared.shape.Shape.{Shape}
use Rattle.lane_core.specs.declared.stepped.Step.TheVariants as step
use Rattle.lane_core.specs.declared.stepped.Answer.TheVariants as answer
use Rattle.lane_core.specs.declared.stepped.Stepped.{Stepped}
use Rattle.lane_core.specs.declared.stepped.Stepped.TheVariants as stepped
use Rattle.lane_core.specs.Areas.{kind_in, next_seq, normal, word_a, word_b}
use Rattle.lane_core.specs.Machine.{lock_of, other, other_lane}
use Rattle.lane_core.specs.Places.{geometry, word_of, SeenData, SeenMap, SeenA, SeenB, Reader, Lock}
use Rattle.lane_core.specs.Rows.{RowWords, Recorded, grown, kept_in, put_in, stored_in}
use Rattle.lane_core.specs.Lines.{kept_phase, looked_now, read_now, scanned, word_at, wrote_now}

module _ (x : Shape) (l : ℕ) (row : RowWords) (p : LaneNow) where
  -- the map word of the lane's sector, and what its entry says
  abbrev pub map_found : ℕ
  map_found = word_at x row (SeenMap (p.sector / 2))

  abbrev pub kind_found : Kind
  kind_found = kind_in (entry_in map_found p.sector)

  -- the lock of the sector that a staged write wants
  abbrev pub lock_wanted : ℕ
  lock_wanted = lock_of (geometry x) p.next_sector

  abbrev pub is_free : Bool
  is_free = word_at x row (Lock lock_wanted) == 0

  -- the entry is the one that the read loaded
  abbrev pub is_unmoved : Bool
  is_unmoved = entry_in map_found p.sector == entry_in p.loaded p.sector

  -- the words of the block that the read looked at
  abbrev pub cell_found : Cell
  cell_found = cell.Bytes (take x.width (drop (word_of x (SeenData (looked_now p) 0)) row.words))

  abbrev pub row_after : Phase → RowWords
  row_after (Staging k) =
      if nat_lt k x.width then stored_in row (word_of x (SeenData p.block k)) (slice_index p.words k)
      else kept_in row (word_of x (SeenData p.block (k - x.width)))
  row_after Staged = if is_free then put_in row (word_of x (Lock lock_wanted)) (suc l) else row
  row_after Known = stored_in row (word_of x (SeenA l (other p.side))) (word_a p.sector (looked_now p))
  row_after LogAStored = kept_in row (word_of x (SeenA l (other p.side)))
  row_after LogA = stored_in row (word_of x (SeenB l (other p.side))) (word_b p.block (next_seq p.half.seq))
  row_after LogBStored = kept_in row (word_of x (SeenB l (other p.side)))
  row_after Logged = stored_in row (word_of x (SeenMap (p.sector / 2))) (with_entry p.loaded p.sector (normal p.block))
  row_after Switched = kept_in row (word_of x (SeenMap (p.sector / 2)))
  row_after Kept = put_in row (word_of x (Lock (lock_of (geometry x) p.sector))) 0
  row_after Looking = put_in row (word_of x (Reader l)) (suc (looked_now p))
  row_after Moved = put_in row (word_of x (Reader l)) 0
  row_after (Reading k) = if nat_lt k x.width then row else put_in row (word_of x (Reader l)) 0
  row_after Idle = row
  row_after (Scanning j) = row
  row_after Locked = row
  row_after Called = row
  row_after Published = row

  -- a read by what the entry says
  abbrev pub lane_looked : Kind → LaneNow
  lane_looked kind.Zero = record p { phase = Idle; words = []; cell = [] }
  lane_looked kind.Bad = record p { phase = Idle }
  lane_looked kind.Initial = record p { phase = Looking; loaded = map_found }
  lane_looked kind.Normal = record p { phase = Looking; loaded = map_found }

  abbrev pub lane_after : Phase → LaneNow
  lane_after Idle = p
  lane_after (Scanning j) = record p { phase = scanned x (word_at x row (Reader (other_lane l j))) p.block j }
  lane_after (Staging k) = if nat_lt k x.width then record p { phase = Staging (k + 1) } else record p { phase = kept_phase x k }
  lane_after Staged = if is_free then record p { phase = Locked; tag = p.next; sector = p.next_sector } else p
  lane_after Locked = record p { phase = Known; loaded = map_found }
  lane_after Known = record p { phase = LogAStored }
  lane_after LogAStored = record p { phase = LogA }
  lane_after LogA = record p { phase = LogBStored }
  lane_after LogBStored = record p {
    phase = Logged;
    side = other p.side;
    half = record { lba = p.sector; old = looked_now p; new = p.block; seq = next_seq p.half.seq };
  }
  lane_after Logged = record p { phase = Switched; block = looked_now p; words = [] }
  lane_after Switched = record p { phase = Kept }
  lane_after Kept = record p { phase = Idle }
  lane_after Called = lane_looked kind_found
  lane_after Looking = record p { phase = Published }
  lane_after Published = if is_unmoved then record p { phase = Reading 0; cell = [] } else record p { phase = Moved }
  lane_after Moved = record p { phase = Called }
  lane_after (Reading k) =
      if nat_lt k x.width then record p { phase = Reading (k + 1); words = slice_set p.words k (word_at x row (SeenData (looked_now p) k)) }
      else record p { phase = Idle; words = [] }

  abbrev pub past_looked : Recorded → Kind → Recorded
  past_looked past kind.Zero = grown past (read_now l p (cell.Bytes (replicate (length p.cell) 0)))
  past_looked past kind.Bad = grown past (read_now l p cell.Bad)
  past_looked past kind.Initial = past
  past_looked past kind.Normal = past

  abbrev pub past_after : Recorded → Phase → Recorded
  past_after past Logged = grown past (wrote_now l p)
  past_after past Called = past_looked past kind_found
  past_after past Published = if is_unmoved then grown past (read_now l p cell_found) else past
  past_after past Idle = past
  past_after past (Scanning j) = past
  past_after past (Staging k) = past
  past_after past Staged = past
  past_after past Locked = past
  past_after past Known = past
  past_after past LogAStored = past
  past_after past LogA = past
  past_after past LogBStored = past
  past_after past Switched = past
  past_after past Kept = past
  past_after past Looking = past
  past_after past Moved = past
  past_after past (Reading k) = past

  abbrev pub answer_looked : Kind → Stepped
  answer_looked kind.Zero = stepped.Done p.tag (answer.Got (cell.Bytes (replicate (length p.words) 0)))
  answer_looked kind.Bad = stepped.Done p.tag (answer.Got cell.Bad)
  answer_looked kind.Initial = stepped.Went step.MapLoad
  answer_looked kind.Normal = stepped.Went step.MapLoad

  abbrev pub answer_after : Phase → Stepped
  answer_after Idle = stepped.Nothing
  answer_after (Scanning j) = stepped.Went step.RttScan
  answer_after (Staging k) = if nat_lt k x.width then stepped.Went step.DataStore else stepped.Went step.DataKeep
  answer_after Staged = stepped.Went step.LockTake
  answer_after Locked = stepped.Went step.MapLoad
  answer_after Known = stepped.Went step.FlogAStore
  answer_after LogAStored = stepped.Went step.FlogAKeep
  answer_after LogA = stepped.Went step.FlogBStore
  answer_after LogBStored = stepped.Went step.FlogBKeep
  answer_after Logged = stepped.Went step.MapStore
  answer_after Switched = stepped.Went step.MapKeep
  answer_after Kept = stepped.Done p.tag answer.Wrote
  answer_after Called = answer_looked kind_found
  answer_after Looking = stepped.Went step.RttSet
  answer_after Published = stepped.Went step.MapCheck
  answer_after Moved = stepped.Went step.RttClear
  answer_after (Reading k) = if nat_lt k x.width then stepped.Went step.DataLoad else stepped.Done p.tag (answer.Got (cell.Bytes p.words))

-- ---- what a step needs

-- the lane is in a write up to the lock, and has its words
abbrev pub wants_lock : Phase → Bool
wants_lock (Scanning j) = true
wants_lock (Staging k) = true
wants_lock Staged = true
wants_lock _ = false

-- the lane has the words of its call, or the room for them
abbrev pub uses_words : Phase → Bool
uses_words Idle = false
uses_words Switched = false
uses_words Kept = false
uses_words _ = true

-- it has the room for the cell of its entry
abbrev pub uses_cell : Phase → Bool
uses_cell Called = true
uses_cell Looking = true
uses_cell Published = true
uses_cell Moved = true
uses_cell _ = false

-- its entry is still to come
abbrev pub owes_entry : Phase → Bool
owes_entry Idle = false
owes_entry Switched = false
owes_entry Kept = false
owes_entry (Reading k) = false
owes_entry _ = true

-- the block of the loaded entry is used
abbrev pub uses_looked : Phase → Bool
uses_looked Looking = true
uses_looked Published = true
uses_looked (Reading k) = true
uses_looked _ = false
