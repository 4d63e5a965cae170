-- The values in words, by clap's own definition.
use Rattle.std.specs.Prelude.{ℕ, Bool, false, List, [], ◌∷◌, Option, Some, None, option_map, option_and_then, codes}
use Rattle.std.specs.Option.{option_map_or}
use Rattle.std.specs.Str.{bytes_eq}
use Rattle.clap.specs.Words.{App, Kinds, Row, Text, fault_of, first_of, found_of, matches_of, rows_of}
use Rattle.command_words.specs.declared.values.Parsed.{Parsed}
use Rattle.command_words.specs.App.{Described, app_for}
use Rattle.command_words.specs.Numbers.{number_within}
use Rattle.uuid.specs.Text as uuid

-- the rows of clap's matches: for each argument that was given or has a default, its name and its values
abbrev pub rows : Parsed → List Row
rows values = rows_of (found_of values.matches)

-- rows, unless there is a fault
abbrev pub rows_unless : Kinds → List Row → Option (List Row)
rows_unless [] rows = Some rows
rows_unless (kind ∷ kinds) rows = None

-- the values that a command of clap finds in words, None if it has a fault for them
abbrev pub taken_by : App → List Text → Option (List Row)
taken_by app words = rows_unless (fault_of app words) (matches_of app words)

-- the values in the words after a command's name
unfoldable pub parsed : List Described → List Text → Option (List Row)
parsed arguments words = taken_by (app_for arguments) words

-- ---- the value of an argument by its name

-- the number of a required argument
abbrev pub number_in : ℕ → ℕ → Text → List Row → Option ℕ
number_in least most name rows = option_and_then (number_within least most) (first_of name rows)

-- the number of an optional argument: Some None if it was left out, None if its value isn't such a number
abbrev pub optional_number : ℕ → ℕ → Option Text → Option (Option ℕ)
optional_number least most None = Some None
optional_number least most (Some word) = option_map (λ n. Some n) (number_within least most word)

abbrev pub optional_number_in : ℕ → ℕ → Text → List Row → Option (Option ℕ)
optional_number_in least most name rows = optional_number least most (first_of name rows)

-- the UUID of a required argument
abbrev pub uuid_in : Text → List Row → Option (List ℕ)
uuid_in name rows = option_and_then uuid.parsed (first_of name rows)

-- whether a flag was given: clap sets its value to `true` or `false`
abbrev pub flag_in : Text → List Row → Bool
flag_in name rows = option_map_or (λ value. bytes_eq value (codes "true")) (first_of name rows) false
