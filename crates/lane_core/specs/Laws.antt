-- The laws about the steps of lanes, as they are proved. `src/law.rt` has a function for each.
use Rattle.std.specs.Prelude.{◌≡◌, ◌≢◌, ◌⊎◌, ℕ, ◌<◌, ◌≤◌, List, replicate, suc, true, false}
use Rattle.map_table.specs.declared.kinds.Kind.TheVariants as kind
use Rattle.map_table.specs.Entry.{entry_in}
use Rattle.arena_open.specs.declared.cell.Cell.TheVariants as cell
use Rattle.lane_core.specs.Areas.{Geometry, IsGeometry, Areas, blocks_of, entry_at, kind_in, has_bytes}
use Rattle.lane_core.specs.History.{Cells, Tag, Entry, cell_in, cell_of, end_of}
use Rattle.lane_core.specs.Machine.{Phase, Idle, Scanning, Staging, Staged, Locked, Known, LogAStored, LogA, LogBStored, Logged, Switched, Kept, Called, Looking, Published, Moved, Reading, State, lock_of, other_lane, begin_write, give_up, scan_again, scan_on, data_store, data_keep, lock_take, map_load, log_a_store, log_a_keep, log_b_store, log_b_keep, map_store, map_keep, lock_free, begin_read, look, look_cell, rtt_set, check_same, check_moved, clear_moved, data_load, clear_done}
use Rattle.lane_core.specs.Invariant.{IsSound}
use Rattle.lane_core.specs.Runs.{Event, AllFit, run}
use Rattle.lane_core.specs.Cut.{AreLeft, IsCurrent, EachOnce, IsRecoverable, Survives, is_open, recovered_entry}
use Rattle.lane_core.specs.Opening.{IsOpen, opened, formatted}
use Rattle.lane_core.specs.Finished.{IsAccount}

-- ---- one line each

-- from every state in which the invariant holds and the lane is in this phase, the step leads to
-- one in which it holds
abbrev pub KeepsInvariant : Phase → (Geometry → State → ℕ → State) → Type 0
KeepsInvariant phase line = (g : Geometry) (o : Cells) (s : State) (l : ℕ) → IsSound g o s → l < g.lanes → (s.lanes l).phase ≡ phase → IsSound g o (line g s l)

-- the same under a further condition
abbrev pub KeepsInvariantIf : Phase → (Geometry → State → ℕ → Type 0) → (Geometry → State → ℕ → State) → Type 0
KeepsInvariantIf phase allowed line =
    (g : Geometry) (o : Cells) (s : State) (l : ℕ) → IsSound g o s → l < g.lanes → (s.lanes l).phase ≡ phase → allowed g s l → IsSound g o (line g s l)

abbrev pub WriteBegins : Type 0
WriteBegins = KeepsInvariant Idle begin_write

-- in the phase in which a call begins it may be given up
abbrev pub CallsAreGivenUp : Type 0
CallsAreGivenUp = KeepsInvariant (Scanning 0) give_up × KeepsInvariant (Staging 0) give_up × KeepsInvariant Called give_up

abbrev pub RttScan : Type 0
RttScan =
    (j : ℕ) → KeepsInvariant (Scanning j) scan_again
    × KeepsInvariantIf (Scanning j) (λ g s l. s.readers (other_lane l j) ≢ suc (s.lanes l).block) (λ g s l. scan_on g s l j)

abbrev pub DataStore : Type 0
DataStore = (k word : ℕ) → KeepsInvariantIf (Staging k) (λ g s l. k < g.width) (λ g s l. data_store g s l k word)

abbrev pub DataKeep : Type 0
DataKeep = (k : ℕ) → KeepsInvariantIf (Staging k) (λ g s l. g.width ≤ k) (λ g s l. data_keep g s l k)

abbrev pub LockTake : Type 0
LockTake = (tag : Tag) (sector : ℕ) → KeepsInvariantIf Staged (λ g s l. (sector < g.sectors) × (s.locks (lock_of g sector) ≡ 0)) (λ g s l. lock_take g s l tag sector)

abbrev pub MapLoad : Type 0
MapLoad = KeepsInvariant Locked map_load

abbrev pub FlogAStore : Type 0
FlogAStore = KeepsInvariant Known log_a_store

abbrev pub FlogAKeep : Type 0
FlogAKeep = KeepsInvariant LogAStored log_a_keep

abbrev pub FlogBStore : Type 0
FlogBStore = KeepsInvariant LogA log_b_store

abbrev pub FlogBKeep : Type 0
FlogBKeep = KeepsInvariant LogBStored log_b_keep

abbrev pub MapStore : Type 0
MapStore = KeepsInvariant Logged map_store

abbrev pub MapKeep : Type 0
MapKeep = KeepsInvariant Switched map_keep

abbrev pub LockFree : Type 0
LockFree = KeepsInvariant Kept lock_free

abbrev pub ReadBegins : Type 0
ReadBegins = (tag : Tag) (sector : ℕ) → KeepsInvariantIf Idle (λ g s l. sector < g.sectors) (λ g s l. begin_read g s l tag sector)

-- a read's MapLoad, by what the entry says
abbrev pub MapLook : Type 0
MapLook =
    KeepsInvariantIf Called (λ g s l. has_bytes (kind_in (entry_at s.seen.map_at (s.lanes l).sector)) ≡ true) look
    × KeepsInvariantIf Called (λ g s l. kind_in (entry_at s.seen.map_at (s.lanes l).sector) ≡ kind.Zero) (λ g s l. look_cell g s l (cell.Bytes (replicate g.width 0)))
    × KeepsInvariantIf Called (λ g s l. kind_in (entry_at s.seen.map_at (s.lanes l).sector) ≡ kind.Bad) (λ g s l. look_cell g s l cell.Bad)

abbrev pub RttSet : Type 0
RttSet = KeepsInvariant Looking rtt_set

-- the entry is the one that was loaded, or the read begins again
abbrev pub MapCheck : Type 0
MapCheck =
    KeepsInvariantIf Published (λ g s l. entry_at s.seen.map_at (s.lanes l).sector ≡ entry_in (s.lanes l).loaded (s.lanes l).sector) check_same
    × KeepsInvariant Published check_moved

abbrev pub DataLoad : Type 0
DataLoad = (k : ℕ) → KeepsInvariantIf (Reading k) (λ g s l. k < g.width) (λ g s l. data_load g s l k)

-- the reader word is cleared, to look again or after the last word
abbrev pub RttClear : Type 0
RttClear = KeepsInvariant Moved clear_moved × ((width : ℕ) → KeepsInvariantIf (Reading width) (λ g s l. width ≡ g.width) clear_done)

-- ---- the whole

-- an arena that was opened meets the invariant, with its own cells as the opening contents
abbrev pub OpenedIsSound : Type 0
OpenedIsSound = (g : Geometry) (areas : Areas) (sides : ℕ → ℕ) → IsOpen g areas sides → IsSound g (cell_of g areas.data_at areas.map_at) (opened areas sides)

-- a new arena is an opened one, so no law here is empty
abbrev pub FormattedIsOpen : Type 0
FormattedIsOpen = (g : Geometry) → IsGeometry g → IsOpen g (formatted g) (λ l. 0)

-- whatever lanes do in whatever order, the invariant holds
abbrev pub EveryRun : Type 0
EveryRun = (g : Geometry) (o : Cells) (s : State) (events : List Event) → IsSound g o s → AllFit g events → IsSound g o (run g s events)

-- Whatever lanes do after opening, and whenever power is cut then: each lane has one current half,
-- opening finds each block once, and each sector has its cell at the history's end or the words of
-- one write in flight.
abbrev pub EveryCut : Type 0
EveryCut =
    (g : Geometry) (areas : Areas) (sides : ℕ → ℕ) (events : List Event) (left : Areas) → IsOpen g areas sides → AllFit g events
    → AreLeft g (run g (opened areas sides) events).seen (run g (opened areas sides) events).kept left
    → ((l : ℕ) → l < g.lanes → (side : ℕ) × IsCurrent left l side)
    × ((after : ℕ → ℕ) → ((l : ℕ) → l < g.lanes → IsCurrent left l (after l)) → IsRecoverable g (cell_of g areas.data_at areas.map_at) (run g (opened areas sides) events) left after)

-- a lane has one current half at most
abbrev pub OneIsCurrent : Type 0
OneIsCurrent = (left : Areas) (l a b : ℕ) → IsCurrent left l a → IsCurrent left l b → a ≡ b

-- A write whose word B was never stored isn't among the survivors: if no lane that is in a write of
-- the sector has come past FlogBStore, or each such lane has stored its map word, after a power cut
-- the sector is as at the end of the history.
abbrev pub UnloggedWritesAreLost : Type 0
UnloggedWritesAreLost =
    (g : Geometry) (o : Cells) (s : State) (left : Areas) (sides : ℕ → ℕ) (t : ℕ) → IsSound g o s → AreLeft g s.seen s.kept left → ((l : ℕ) → l < g.lanes → IsCurrent left l (sides l)) → t < g.sectors
    → ((l : ℕ) → l < g.lanes → (s.lanes l).sector ≡ t → is_open (s.lanes l).phase ≡ false)
    → cell_in g.width left.data_at (recovered_entry left sides g.lanes t) t ≡ end_of o s.history t

-- if the sectors and the lanes name no block twice, they name each block exactly once
abbrev pub EachIsNamed : Type 0
EachIsNamed =
    (g : Geometry) (of_sector of_lane : ℕ → ℕ) → EachOnce g of_sector of_lane → (b : ℕ) → b < blocks_of g
    → ((s : ℕ) × (s < g.sectors) × (of_sector s ≡ b)) ⊎ ((l : ℕ) × (l < g.lanes) × (of_lane l ≡ b))

-- The state after a power cut, once opening has made the pending moves in the map: the arena is
-- open, meets the invariant, and has the cells that survive.
pub record IsReopened (g : Geometry) (o : Cells) (s : State) (again : Areas) (sides : ℕ → ℕ) : Type 0 where
  pub open_again : IsOpen g again sides
  pub sound : IsSound g (cell_of g again.data_at again.map_at) (opened again sides)
  pub contents : (t : ℕ) → t < g.sectors → Survives g o s t (cell_of g again.data_at again.map_at t)

-- `again` is `left` with the recovered entries in the map
pub record HasMovesMade (g : Geometry) (left again : Areas) (sides : ℕ → ℕ) : Type 0 where
  pub log_a : again.log_a ≡ left.log_a
  pub log_b : again.log_b ≡ left.log_b
  pub blocks : again.data_at ≡ left.data_at
  pub map : (t : ℕ) → t < g.sectors → entry_at again.map_at t ≡ recovered_entry left sides g.lanes t

abbrev pub CutsReopen : Type 0
CutsReopen =
    (g : Geometry) (o : Cells) (s : State) (left again : Areas) (sides : ℕ → ℕ) → IsSound g o s → AreLeft g s.seen s.kept left → ((l : ℕ) → l < g.lanes → IsCurrent left l (sides l))
    → HasMovesMade g left again sides → IsReopened g o s again sides

-- Whatever lanes do, there is a legal history with exactly the entries of their logs, without
-- unfinished reads, and it ends in the cells that the seen words encode.
abbrev pub EveryAccount : Type 0
EveryAccount = (g : Geometry) (o : Cells) (s : State) → IsSound g o s → (h : List Entry) × IsAccount g o (cell_of g s.seen.data_at s.seen.map_at) (λ l. (s.lanes l).log) h
