-- The texts of values and of cells: this project's.
use Rattle.std.specs.Prelude.{ℕ, ◌==◌, Bool, if◌then◌else◌, List, [], ◌∷◌, ◌++◌, codes}
use Rattle.std.specs.List.{list_all}
use Rattle.hex.specs.Hex.{encode_lower}
use Rattle.cut_words.specs.WordBytes.{bytes_of}
use Rattle.arena_open.specs.declared.cell.Cell.{Cell}
use Rattle.arena_open.specs.declared.cell.Cell.TheVariants as cell

-- pieces of a text, concatenated
abbrev pub joined : List (List ℕ) → List ℕ
joined [] = []
joined (piece ∷ pieces) = piece ++ joined pieces

-- the end of a line
abbrev pub lf : List ℕ
lf = 10 ∷ []

abbrev pub is_fill : ℕ → List ℕ → Bool
is_fill byte bytes = list_all (λ b. b == byte) bytes

-- a value: its one repeated byte, or all of its bytes
abbrev pub value_text : List ℕ → List ℕ
value_text [] = codes "hex:"
value_text (byte ∷ bytes) = if is_fill byte bytes then codes "fill:" ++ encode_lower (byte ∷ []) else codes "hex:" ++ encode_lower (byte ∷ bytes)

-- the line of a cell that was read
abbrev pub cell_text : Cell → List ℕ
cell_text (cell.Bytes words) = joined (codes "ok " ∷ value_text (bytes_of words) ∷ lf ∷ [])
cell_text cell.Bad = codes "bad" ++ lf
