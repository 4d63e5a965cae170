-- The core of an opened arena, and what opening finds in its words after a power cut.
use Rattle.std.specs.Prelude.{◌≡◌, ◌⊎◌, ℕ, ◌<◌, true, List, ◌++◌, length, slice_get, slice_index, Some, Ok}
use Rattle.arena_open.specs.declared.cell.Cell.{Cell}
use Rattle.arena_open.specs.declared.cell.Cell.TheVariants as cell
use Rattle.arena_open.specs.declared.opened.Opened.{Opened}
use Rattle.arena_open.specs.declared.state.ArenaState.{ArenaState}
use Rattle.arena_open.specs.Reading.{cell_at, opening}
use Rattle.arena_open.specs.Moves.{state_of, IsOpenState}
use Rattle.lane_core.specs.declared.machine.Core.{Core}
use Rattle.lane_core.specs.declared.now.LaneNow.{LaneNow}
use Rattle.lane_core.specs.Arenas.{shape_in}
use Rattle.lane_core.specs.Cut.{is_open}
use Rattle.lane_core.specs.Fixed.{SameFixed, RowHasFixed}
use Rattle.lane_core.specs.Held.{Held}
use Rattle.lane_core.specs.History.{Cells, end_of}
use Rattle.lane_core.specs.Machines.{IsCore}
use Rattle.lane_core.specs.Rows.{IsMarked}

-- the sectors' cells at the opening, as a reader of the arena gets them
abbrev pub first_cells : ArenaState → Cells
first_cells state = cell_at state.info.layout state.words

-- The core of an arena: its calls began with the arena's sectors, each word that no lane stores is
-- the arena's, and each word with two values was stored since its last keep.
pub record IsCoreOf (state : ArenaState) (core : Core) : Type 0 where
  pub opened : IsOpenState state
  pub info : core.info ≡ state.info
  pub shape : core.shape ≡ shape_in state
  pub shows : IsCore (first_cells state) core
  pub fixed : RowHasFixed core.shape state.words core.row.words
  pub marked : IsMarked core.row

-- it is still the core of the same arena
abbrev pub KeepsArena : Core → Core → Type 0
KeepsArena old new = (state : ArenaState) → IsCoreOf state old → IsCoreOf state new

-- ---- after a power cut

-- the cell has the words of a write of this sector whose log entry was stored and whose map entry
-- wasn't
pub record IsInFlight (held : Held) (sector : ℕ) (found : Cell) : Type 0 where
  pub lane : ℕ
  pub call : LaneNow
  pub there : slice_get held.lanes lane ≡ Some call
  pub unfinished : is_open call.phase ≡ true
  pub on : call.sector ≡ sector
  pub words : found ≡ cell.Bytes call.words

-- a cell that a sector may have after a power cut: the one at the end of the history, or that of
-- one write in flight
abbrev pub MaySurvive : Cells → Held → ℕ → Cell → Type 0
MaySurvive first held sector found = (found ≡ end_of first held.entries sector) ⊎ IsInFlight held sector found

-- The words open as the arena, and each sector has a cell that it may have. `May t c` says that sector t
-- may have cell c.
pub record IsFoundAgain (state : ArenaState) (May : ℕ → Cell → Type 0) (words parent : List ℕ) : Type 0 where
  pub arena : Opened
  pub opens : opening words parent ≡ Ok arena
  pub info : arena.info ≡ state.info
  pub contents : (sector : ℕ) → sector < state.info.layout.external → May sector (cell_at arena.info.layout (state_of words arena).words sector)

-- An arena's words after a power cut, by the cells that its sectors may have then. Info blocks and
-- padding are as they were. If the arena's words opened in a namespace, these open in their place,
-- whatever stands behind them.
pub record Reopens (state : ArenaState) (May : ℕ → Cell → Type 0) (left : List ℕ) : Type 0 where
  pub size : length left ≡ length state.words
  pub fixed : SameFixed (shape_in state) state.words left
  pub opens : (behind parent : List ℕ) (arena : Opened) → opening (state.words ++ behind) parent ≡ Ok arena → IsFoundAgain state May (left ++ behind) parent

-- each word by itself is the kept one or the seen one
pub record IsEither (kept seen left : List ℕ) : Type 0 where
  pub same_length : length left ≡ length kept
  pub each : (i : ℕ) → (slice_index left i ≡ slice_index kept i) ⊎ (slice_index left i ≡ slice_index seen i)
