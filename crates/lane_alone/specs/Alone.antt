-- The words of an arena after one write of a sector, when nobody else uses it: Linux's BTT document, and UEFI 2.10, section 6.3.
use Rattle.std.specs.Prelude.{◌≡◌, ℕ, ◌<◌, List, [], ◌++◌, length, Ok}
use Rattle.arena_open.specs.declared.cell.Cell.TheVariants as cell
use Rattle.arena_open.specs.declared.opened.Opened.{Opened}
use Rattle.arena_open.specs.declared.state.ArenaState.{ArenaState}
use Rattle.arena_open.specs.Moves.{state_of}
use Rattle.arena_open.specs.Reading.{cell_at, opening}
use Rattle.lane_core.specs.Areas.{put}
use Rattle.lane_core.specs.Arenas.{shape_in}
use Rattle.lane_core.specs.Fixed.{SameFixed}
use Rattle.lane_core.specs.Reopening.{first_cells}

-- Words open as the arena, without a pending move, and its sectors have their cells but for the one that was written.
pub record IsWrittenIn (state : ArenaState) (own : ℕ) (words now parent : List ℕ) : Type 0 where
  pub opened : Opened
  pub opens : opening now parent ≡ Ok opened
  pub info : opened.info ≡ state.info
  pub none : opened.moves ≡ []
  pub cells : (t : ℕ) → t < state.info.layout.external → cell_at opened.info.layout (state_of now opened).words t ≡ put (first_cells state) own (cell.Bytes words) t

-- The words of an arena after a write of `words` to a sector. Wherever the arena's words opened, these open in their place.
pub record IsWritten (state : ArenaState) (own : ℕ) (words left : List ℕ) : Type 0 where
  pub size : length left ≡ length state.words
  -- info blocks and padding are as they were
  pub fixed : SameFixed (shape_in state) state.words left
  pub opens : (behind parent : List ℕ) (arena : Opened) → opening (state.words ++ behind) parent ≡ Ok arena → IsWrittenIn state own words (left ++ behind) parent
