-- The words of a closed arena after a power loss, and what opening finds in them.
use Rattle.std.specs.Prelude.{◌≡◌, ◌⊎◌, ℕ, true, List}
use mathlib.Core.Option.{some}
use lib.ListN.{get_elem?}
use Rattle.arena_open.specs.declared.cell.Cell.{Cell}
use Rattle.arena_open.specs.declared.cell.Cell.TheVariants as cell
use Rattle.arena_open.specs.declared.state.ArenaState.{ArenaState}
use Rattle.arena_open.specs.Moves.{IsOpenState}
use Rattle.lane_core.specs.declared.history.Entry.{Entry}
use Rattle.lane_core.specs.Cut.{is_open}
use Rattle.lane_core.specs.History.{end_of}
use Rattle.lane_core.specs.Reopening.{IsEither, Reopens, first_cells}
use Rattle.lane_table.specs.declared.arena.Arena.{Arena}
use Rattle.lane_table.specs.declared.closing.Closed.{Closed}
use Rattle.lane_table.specs.declared.lanes.LaneEnd.{LaneEnd}
use Rattle.lane_table.specs.Begun.{IsMadeOf}
use Rattle.lane_table.specs.Closed.{AreInOrder, IsClosed}
use Rattle.lane_table.specs.Kits.{kit_in}

-- the cell has the words of a write of this sector, whose lane stopped after its log entry was
-- stored and before its map entry was
pub record IsInFlight (ends : List LaneEnd) (sector : ℕ) (found : Cell) : Type 0 where
  pub lane : ℕ
  pub stopped : LaneEnd
  pub there : get_elem? ends lane ≡ some stopped
  pub unfinished : is_open (kit_in stopped).seat.me.0.lane.phase ≡ true
  pub on : (kit_in stopped).seat.me.0.lane.sector ≡ sector
  pub words : found ≡ cell.Bytes (kit_in stopped).seat.me.0.lane.words

-- a cell that a sector may have then: the one at the end of the history, or that of a write in
-- flight
abbrev pub MaySurvive : ArenaState → List LaneEnd → List Entry → ℕ → Cell → Type 0
MaySurvive state ends history sector found = (found ≡ end_of (first_cells state) history sector) ⊎ IsInFlight ends sector found

-- a law: the words after an arena was closed and lost power, each of them the kept one or the seen
-- one, open again as the arena
abbrev pub ClosedWordsReopen : Type 0
ClosedWordsReopen =
    (state : ArenaState) (a : Arena) (ends : List LaneEnd) (c : Closed) (left : List ℕ) → IsOpenState state → IsMadeOf state a → AreInOrder a.shape.lanes ends
    → (closed : IsClosed a.table.shared.key ends c) → IsEither c.kept.items c.seen.items left → Reopens state (MaySurvive state ends closed.history) left
