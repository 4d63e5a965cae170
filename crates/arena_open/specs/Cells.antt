-- The result of reading a cell.
use Rattle.std.specs.Prelude.{◌≡◌, ℕ, List}
use Rattle.arena_open.specs.declared.cell.Cell.{Cell}
use Rattle.arena_open.specs.declared.cell.Cell.TheVariants as cell
use Rattle.arena_open.specs.declared.cell.CellKind.{CellKind}
use Rattle.arena_open.specs.declared.cell.CellKind.TheVariants as kind

-- the cell's words are in the buffer; for a bad cell the buffer is unchanged
abbrev pub GivesCell : Cell → CellKind → List ℕ → List ℕ → Type 0
GivesCell (cell.Bytes words) answer before now = (answer ≡ kind.Bytes) × (now ≡ words)
GivesCell cell.Bad answer before now = (answer ≡ kind.Bad) × (now ≡ before)
