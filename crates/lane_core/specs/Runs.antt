-- Whole runs: every list of events of any lanes. An event that a lane's phase doesn't allow does
-- nothing.
use Rattle.std.specs.Prelude.{ℕ, ◌<◌, ◌==◌, nat_lt, if◌then◌else◌, List, [], ◌∷◌, replicate, zero, suc}
use Rattle.map_table.specs.Entry.{entry_in}
use Rattle.lane_core.specs.Areas.{Geometry, entry_at, kind_in}
use Rattle.map_table.specs.declared.kinds.Kind.{Kind}
use Rattle.map_table.specs.declared.kinds.Kind.TheVariants as kind
use Rattle.lane_core.specs.Machine.{Phase, Idle, Scanning, Staging, Staged, Locked, Known, LogAStored, LogA, LogBStored, Logged, Switched, Kept, Called, Looking, Published, Moved, Reading, State, lock_of, other_lane, begin_write, scan_again, scan_on, data_store, data_keep, lock_take, map_load, log_a_store, log_a_keep, log_b_store, log_b_keep, map_store, map_keep, lock_free, begin_read, look, look_cell, rtt_set, check_same, check_moved, clear_moved, data_load, clear_done, give_up}
use Rattle.arena_open.specs.declared.cell.Cell.TheVariants as cell
use Rattle.nvd_words.specs.declared.tag.Tag.{Tag}

pub data Event : Type 0 where
  Write : (lane : ℕ) → Event  -- a write begins
  Store : (lane word : ℕ) → Event  -- the call's next word
  Take : (lane : ℕ) (tag : Tag) (sector : ℕ) → Event  -- a staged write tries its sector's lock
  Read : (lane : ℕ) (tag : Tag) (sector : ℕ) → Event  -- a read begins
  Give_up : (lane : ℕ) → Event  -- in the phase in which the call began
  Step : (lane : ℕ) → Event  -- any other line

-- the lane is there, and so is the sector
abbrev pub Fits : Geometry → Event → Type 0
Fits g (Write l) = l < g.lanes
Fits g (Store l w) = l < g.lanes
Fits g (Take l tag s) = (l < g.lanes) × (s < g.sectors)
Fits g (Read l tag s) = (l < g.lanes) × (s < g.sectors)
Fits g (Give_up l) = l < g.lanes
Fits g (Step l) = l < g.lanes

module _ (g : Geometry) (s : State) (l : ℕ) where
  -- what an event does, by the lane's phase
  abbrev pub written : Phase → State
  written Idle = begin_write g s l
  written _ = s

  abbrev pub came : ℕ → Phase → State
  came w (Staging k) = if nat_lt k g.width then data_store g s l k w else s
  came w _ = s

  abbrev pub took : Tag → ℕ → Phase → State
  took tag sector Staged = if s.locks (lock_of g sector) == 0 then lock_take g s l tag sector else s
  took tag sector _ = s

  abbrev pub called : Tag → ℕ → Phase → State
  called tag sector Idle = begin_read g s l tag sector
  called tag sector _ = s

  abbrev pub given_up : Phase → State
  given_up (Scanning zero) = give_up g s l
  given_up (Staging zero) = give_up g s l
  given_up Called = give_up g s l
  given_up _ = s

  -- what a read finds by the kind of its entry
  abbrev pub found : Kind → State
  found kind.Zero = look_cell g s l (cell.Bytes (replicate g.width 0))
  found kind.Bad = look_cell g s l cell.Bad
  found kind.Initial = look g s l
  found kind.Normal = look g s l

  -- the line of the phase
  abbrev pub stepped : Phase → State
  stepped Idle = s
  stepped (Scanning j) = if s.readers (other_lane l j) == suc (s.lanes l).block then scan_again g s l else scan_on g s l j
  stepped (Staging k) = if nat_lt k g.width then s else data_keep g s l k
  stepped Staged = s
  stepped Locked = map_load g s l
  stepped Known = log_a_store g s l
  stepped LogAStored = log_a_keep g s l
  stepped LogA = log_b_store g s l
  stepped LogBStored = log_b_keep g s l
  stepped Logged = map_store g s l
  stepped Switched = map_keep g s l
  stepped Kept = lock_free g s l
  stepped Called = found (kind_in (entry_at s.seen.map_at (s.lanes l).sector))
  stepped Looking = rtt_set g s l
  stepped Published = if entry_at s.seen.map_at (s.lanes l).sector == entry_in (s.lanes l).loaded (s.lanes l).sector then check_same g s l else check_moved g s l
  stepped Moved = clear_moved g s l
  stepped (Reading k) = if nat_lt k g.width then data_load g s l k else clear_done g s l

abbrev pub happens : Geometry → State → Event → State
happens g s (Write l) = written g s l (s.lanes l).phase
happens g s (Store l w) = came g s l w (s.lanes l).phase
happens g s (Take l tag sector) = took g s l tag sector (s.lanes l).phase
happens g s (Read l tag sector) = called g s l tag sector (s.lanes l).phase
happens g s (Give_up l) = given_up g s l (s.lanes l).phase
happens g s (Step l) = stepped g s l (s.lanes l).phase

-- all events, one after another
unfoldable pub run : Geometry → State → List Event → State
run g s [] = s
run g s (e ∷ es) = run g (happens g s e) es

unfoldable pub AllFit : Geometry → List Event → Type 0
AllFit g [] = Unit {0}
AllFit g (e ∷ es) = Fits g e × AllFit g es
