-- Lanes, the state of an arena, and one step of a lane for each line of the algorithm: Linux's BTT
-- document (Documentation/driver-api/nvdimm/btt.rst). Which lock guards a map word is this
-- project's rule.
use Rattle.std.specs.Prelude.{ℕ, ◌+◌, ◌-◌, ◌*◌, ◌/◌, ◌%◌, ◌==◌, nat_lt, if◌then◌else◌, List, [], ◌∷◌, ◌++◌, suc}
pub use Rattle.lane_core.specs.declared.phase.Phase.{Phase}
pub use Rattle.lane_core.specs.declared.phase.Phase.TheVariants.{Idle, Scanning, Staging, Staged, Locked, Known, LogAStored, LogA, LogBStored, Logged, Switched, Kept, Called, Looking, Published, Moved, Reading}
pub use Rattle.lane_core.specs.declared.lane.Lane.{Lane}
use Rattle.map_table.specs.Entry.{entry_in, with_entry}
use Rattle.lane_core.specs.Areas.{put, Geometry, Areas, store_data, store_map, store_a, store_b, block_in, normal, word_a, word_b, next_seq}
use Rattle.lane_core.specs.History.{Tag, Entry, Cell, listed}
use Rattle.arena_open.specs.declared.cell.Cell.TheVariants as cell
use Rattle.lane_core.specs.declared.history.Act.TheVariants as act

pub record State : Type 0 where
  pub seen : Areas  -- what a load gives
  pub kept : Areas  -- what stands on the medium if power is cut, but for what is stored and not yet kept
  pub readers : ℕ → ℕ  -- the reader table: of each lane 0, or a block and 1
  pub locks : ℕ → ℕ  -- the map locks: of each 0, or a lane and 1
  pub lanes : ℕ → Lane
  pub history : List Entry  -- the calls that stand, oldest first

-- the side of the half that isn't current
abbrev pub other : ℕ → ℕ
other side = 1 - side

-- the lock of a sector's map word: one for both of its entries
unfoldable pub lock_of : Geometry → ℕ → ℕ
lock_of g s = s / 2 % g.lanes

-- the entry of a write, and of a read that finds a cell
abbrev pub wrote : ℕ → Lane → Entry
wrote l p = record { lane = l; tag = p.tag; sector = p.sector; act = act.Write p.words }

abbrev pub read : ℕ → Lane → Cell → Entry
read l p c = record { lane = l; tag = p.tag; sector = p.sector; act = act.Read c }

-- the block of the sector's entry in the loaded word
abbrev pub looked : Lane → ℕ
looked p = block_in (entry_in p.loaded p.sector) p.sector

-- only one lane changes
abbrev pub with_lane : State → ℕ → Lane → State
with_lane s l p = record s { lanes = put s.lanes l p }

-- the j-th other lane, by rising numbers
abbrev pub other_lane : ℕ → ℕ → ℕ
other_lane l j = if nat_lt j l then j else j + 1

-- the first phase of a write: with one lane there is no other to look at
abbrev pub first_phase : Geometry → Phase
first_phase g = if g.lanes == 1 then Staging 0 else Scanning 0

-- ---- each is one step of lane l; beginning a call and giving it up are no steps

module _ (g : Geometry) (s : State) (l : ℕ) where
  -- a write begins
  abbrev pub begin_write : State
  begin_write = with_lane s l (record (s.lanes l) { phase = first_phase g; words = [] })

  -- the call is given up in the phase in which it began
  abbrev pub give_up : State
  give_up = with_lane s l (record (s.lanes l) { phase = Idle })

  -- RttScan: the other lane reads the free block
  abbrev pub scan_again : State
  scan_again = with_lane s l (record (s.lanes l) { phase = Scanning 0 })

  -- RttScan: the j-th other lane doesn't read it
  abbrev pub scan_on : ℕ → State
  scan_on j = with_lane s l (record (s.lanes l) { phase = if j + 2 == g.lanes then Staging 0 else Scanning (j + 1); words = [] })

  -- DataStore: the call's word k comes and is stored in the free block
  abbrev pub data_store : ℕ → ℕ → State
  data_store k w = record s {
    seen = store_data s.seen (s.lanes l).block k w;
    lanes = put s.lanes l (record (s.lanes l) { phase = Staging (k + 1); words = (s.lanes l).words ++ w ∷ [] });
  }

  -- DataKeep: word k - E of the free block is kept
  abbrev pub data_keep : ℕ → State
  data_keep k = record s {
    kept = store_data s.kept (s.lanes l).block (k - g.width) (s.seen.data_at (s.lanes l).block (k - g.width));
    lanes = put s.lanes l (record (s.lanes l) { phase = if k + 1 == 2 * g.width then Staged else Staging (k + 1) });
  }

  -- LockTake: the lock was free; the call's tag and sector join
  abbrev pub lock_take : Tag → ℕ → State
  lock_take tag sector = record s {
    locks = put s.locks (lock_of g sector) (suc l);
    lanes = put s.lanes l (record (s.lanes l) { phase = Locked; tag = tag; sector = sector });
  }

  -- MapLoad of a write
  abbrev pub map_load : State
  map_load = with_lane s l (record (s.lanes l) { phase = Known; loaded = s.seen.map_at ((s.lanes l).sector / 2) })

  -- FlogAStore: Lba and OldMap of the half that isn't current
  abbrev pub log_a_store : State
  log_a_store = record s {
    seen = store_a s.seen l (other (s.lanes l).side) (word_a (s.lanes l).sector (looked (s.lanes l)));
    lanes = put s.lanes l (record (s.lanes l) { phase = LogAStored });
  }

  -- FlogAKeep
  abbrev pub log_a_keep : State
  log_a_keep = record s {
    kept = store_a s.kept l (other (s.lanes l).side) (s.seen.log_a l (other (s.lanes l).side));
    lanes = put s.lanes l (record (s.lanes l) { phase = LogA });
  }

  -- FlogBStore: NewMap and the next Seq
  abbrev pub log_b_store : State
  log_b_store = record s {
    seen = store_b s.seen l (other (s.lanes l).side) (word_b (s.lanes l).block (next_seq (s.lanes l).half.seq));
    lanes = put s.lanes l (record (s.lanes l) { phase = LogBStored });
  }

  -- FlogBKeep: the other half is now the current one
  abbrev pub log_b_keep : State
  log_b_keep = record s {
    kept = store_b s.kept l (other (s.lanes l).side) (s.seen.log_b l (other (s.lanes l).side));
    lanes = put s.lanes l (record (s.lanes l) {
      phase = Logged;
      side = other (s.lanes l).side;
      half = record { lba = (s.lanes l).sector; old = looked (s.lanes l); new = (s.lanes l).block; seq = next_seq (s.lanes l).half.seq };
    });
  }

  -- MapStore: the write enters the history, and the old block is the lane's
  abbrev pub map_store : State
  map_store = record s {
    seen = store_map s.seen ((s.lanes l).sector / 2) (with_entry (s.lanes l).loaded (s.lanes l).sector (normal (s.lanes l).block));
    lanes = put s.lanes l (record (s.lanes l) { phase = Switched; block = looked (s.lanes l); words = []; log = (s.lanes l).log ++ wrote l (s.lanes l) ∷ [] });
    history = s.history ++ wrote l (s.lanes l) ∷ [];
  }

  -- MapKeep
  abbrev pub map_keep : State
  map_keep = record s {
    kept = store_map s.kept ((s.lanes l).sector / 2) (s.seen.map_at ((s.lanes l).sector / 2));
    lanes = put s.lanes l (record (s.lanes l) { phase = Kept });
  }

  -- LockFree: the write is answered
  abbrev pub lock_free : State
  lock_free = record s {
    locks = put s.locks (lock_of g (s.lanes l).sector) 0;
    lanes = put s.lanes l (record (s.lanes l) { phase = Idle });
  }

  -- a read begins
  abbrev pub begin_read : Tag → ℕ → State
  begin_read tag sector = with_lane s l (record (s.lanes l) { phase = Called; tag = tag; sector = sector })

  -- MapLoad of a read: the entry says that its block has the bytes
  abbrev pub look : State
  look = with_lane s l (record (s.lanes l) { phase = Looking; loaded = s.seen.map_at ((s.lanes l).sector / 2) })

  -- MapLoad of a read: the entry itself says the cell, zeros or bad, and the read is answered
  abbrev pub look_cell : Cell → State
  look_cell c = record s {
    lanes = put s.lanes l (record (s.lanes l) { phase = Idle; log = (s.lanes l).log ++ read l (s.lanes l) c ∷ [] });
    history = s.history ++ read l (s.lanes l) c ∷ [];
  }

  -- RttSet: the block is published
  abbrev pub rtt_set : State
  rtt_set = record s {
    readers = put s.readers l (suc (looked (s.lanes l)));
    lanes = put s.lanes l (record (s.lanes l) { phase = Published });
  }

  -- MapCheck: the sector's entry is the same, and the read enters the history
  abbrev pub check_same : State
  check_same = record s {
    lanes = put s.lanes l (record (s.lanes l) { phase = Reading 0; got = [] });
    history = s.history ++ read l (s.lanes l) (cell.Bytes (listed g.width (s.seen.data_at (looked (s.lanes l))))) ∷ [];
  }

  -- MapCheck: the entry has changed
  abbrev pub check_moved : State
  check_moved = with_lane s l (record (s.lanes l) { phase = Moved })

  -- RttClear, to look again
  abbrev pub clear_moved : State
  clear_moved = record s {
    readers = put s.readers l 0;
    lanes = put s.lanes l (record (s.lanes l) { phase = Called });
  }

  -- DataLoad of word k
  abbrev pub data_load : ℕ → State
  data_load k = with_lane s l (record (s.lanes l) { phase = Reading (k + 1); got = (s.lanes l).got ++ s.seen.data_at (looked (s.lanes l)) k ∷ [] })

  -- RttClear: the read is answered
  abbrev pub clear_done : State
  clear_done = record s {
    readers = put s.readers l 0;
    lanes = put s.lanes l (record (s.lanes l) { phase = Idle; got = []; log = (s.lanes l).log ++ read l (s.lanes l) (cell.Bytes (s.lanes l).got) ∷ [] });
  }
