-- The lines of a text, and its parts between marks.
use Rattle.std.specs.Prelude.{ℕ, ◌+◌, ◌==◌, if◌then◌else◌, List, [], ◌∷◌, Option, Some, None, Result, Ok, Err}

-- the bytes before the first mark
abbrev pub before : ℕ → List ℕ → List ℕ
before mark [] = []
before mark (c ∷ cs) = if c == mark then [] else c ∷ before mark cs

-- the bytes after the first mark, if there is one
abbrev pub after : ℕ → List ℕ → Option (List ℕ)
after mark [] = None
after mark (c ∷ cs) = if c == mark then Some cs else after mark cs

-- a byte before the first of some lines
abbrev pub with_byte : ℕ → List (List ℕ) → List (List ℕ)
with_byte c [] = (c ∷ []) ∷ []
with_byte c (line ∷ lines) = (c ∷ line) ∷ lines

-- each line ends with LF, but for the last one, which may
abbrev pub lines_in : List ℕ → List (List ℕ)
lines_in [] = []
lines_in (c ∷ cs) = if c == 10 then [] ∷ lines_in cs else with_byte c (lines_in cs)

-- what is read line by line, from the line with a number on; the first line that isn't read decides
abbrev pub lines_read : {A F : Type 0} → (A → ℕ → List ℕ → Result A F) → ℕ → List (List ℕ) → Result A F → Result A F
lines_read with_line number lines (Err fault) = Err fault
lines_read with_line number [] (Ok read) = Ok read
lines_read with_line number (line ∷ lines) (Ok read) = lines_read with_line (number + 1) lines (with_line read number line)
