-- The lines of a schedule, one by one: this project's grammar.
use Rattle.std.specs.Prelude.{ℕ, if◌then◌else◌, List, [], ◌∷◌, Result, Ok, Err, codes}
use Rattle.std.specs.Str.{bytes_eq}
use Rattle.session_script.specs.declared.fault.LineFault.{LineFault}
use Rattle.session_script.specs.declared.fault.LineFault.TheVariants as line
use Rattle.session_script.specs.declared.fault.LineKind.TheVariants as kind
use Rattle.session_script.specs.declared.schedule.ReplayLine.{ReplayLine}
use Rattle.session_script.specs.declared.schedule.ReplayLine.TheVariants.{Read, Write, Step}
use Rattle.session_script.specs.Lines.{before, after}
use Rattle.session_script.specs.Fields.{Rest, at_end, is_printable, on_field, u32_field, u64_field, value_field, word_field}

-- ---- one line

-- read SECTOR
abbrev pub read_line : ℕ → Rest → Result ReplayLine LineFault
read_line lane rest = on_field (u64_field rest) (λ sector rest. at_end rest (Read lane sector))

-- write SECTOR VALUE
abbrev pub write_line : ℕ → Rest → Result ReplayLine LineFault
write_line lane rest = on_field (u64_field rest) (λ sector rest. on_field (value_field rest) (λ value rest. at_end rest (Write lane sector value)))

-- step LANE COUNT
abbrev pub step_line : Rest → Result ReplayLine LineFault
step_line rest = on_field (u32_field rest) (λ lane rest. on_field (u64_field rest) (λ count rest. at_end rest (Step lane count)))

-- the word after a lane's number says what is called
unfoldable pub called : ℕ → List ℕ → Rest → Result ReplayLine LineFault
called lane word rest =
    if bytes_eq word (codes "read") then read_line lane rest
    else if bytes_eq word (codes "write") then write_line lane rest
    else Err (line.Kind kind.Word)

-- call LANE and a call
abbrev pub call_line : Rest → Result ReplayLine LineFault
call_line rest = on_field (u32_field rest) (λ lane rest. on_field (word_field rest) (called lane))

-- the first word says what the line is
unfoldable pub begun : List ℕ → Rest → Result ReplayLine LineFault
begun word rest =
    if bytes_eq word (codes "call") then call_line rest
    else if bytes_eq word (codes "step") then step_line rest
    else Err (line.Kind kind.Word)

abbrev pub line_reading : List ℕ → Result ReplayLine LineFault
line_reading text = if is_printable text then begun (before 32 text) (after 32 text) else Err (line.Kind kind.Encoding)

-- ---- the lines that a text has

-- a line before others; one that isn't in the grammar ends them
abbrev pub before_lines : Result ReplayLine LineFault → List ReplayLine → List ReplayLine
before_lines (Ok l) lines = l ∷ lines
before_lines (Err what) lines = []

-- what lines of text state, up to the first that isn't in the grammar
abbrev pub lines_stated : List (List ℕ) → List ReplayLine
lines_stated [] = []
lines_stated (text ∷ texts) = before_lines (line_reading text) (lines_stated texts)
