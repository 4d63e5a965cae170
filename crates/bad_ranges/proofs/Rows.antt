-- Worked examples, computed on the definitions.
use Rattle.std.proofs.Common.{◌≡◌, ℕ, ◌-◌, ◌^◌, Bool, true, false, List, [], ◌∷◌, ◌++◌, map, Option, Some, None, refl}
use Rattle.std.specs.List.{range_with_len}
use Rattle.std.specs.Int.{w64, to_le_bytes}
use Rattle.nvd_words.specs.Bytes.{number_at}
use Rattle.nfit_reader.specs.declared.table.Mapping.{Mapping}
use Rattle.power_cut.specs.Namespace.{Namespace, over}
use Rattle.bad_ranges.specs.declared.ranges.BadRange.{BadRange}
use Rattle.bad_ranges.specs.Bad.{bad_words, meets, records_of}

abbrev from : ℕ → ℕ → BadRange
from start length = record { start = start; length = length }

-- ---- records and words

-- an object of 0 bytes has no record, as a missing one
records_none : (records_of None ≡ []) × (records_of (Some []) ≡ [])
unfolding records_of
records_none = (refl, refl)

-- the sixteen bytes of a record
abbrev bytes : ℕ → ℕ → List ℕ
bytes start length = to_le_bytes w64 start ++ to_le_bytes w64 length

records_two : records_of (Some (bytes 4096 512 ++ bytes 65536 8)) ≡ from 4096 512 ∷ from 65536 8 ∷ []
unfolding records_of number_at
records_two = refl

-- one byte: the last of the word at 8, and the first of the next
last_byte : (meets 8 (from 15 1) ≡ true) × (meets 16 (from 15 1) ≡ false) × (meets 8 (from 16 1) ≡ false) × (meets 16 (from 16 1) ≡ true)
last_byte = (refl, refl, refl, refl)

-- both bytes
two_bytes : (meets 8 (from 15 2) ≡ true) × (meets 16 (from 15 2) ≡ true) × (meets 24 (from 15 2) ≡ false)
two_bytes = (refl, refl, refl)

-- a range of length 0 has no bytes, wherever it starts
no_bytes : (meets 8 (from 8 0) ≡ false) × (meets 8 (from 12 0) ≡ false)
no_bytes = (refl, refl)

-- the highest start and length: the last word, and none at the lowest addresses
highest : (meets (2 ^ 64 - 8) (from (2 ^ 64 - 1) (2 ^ 64 - 1)) ≡ true) × (meets (2 ^ 64 - 16) (from (2 ^ 64 - 1) (2 ^ 64 - 1)) ≡ false) × (meets 0 (from (2 ^ 64 - 1) (2 ^ 64 - 1)) ≡ false)
highest = (refl, refl, refl)

-- ---- a namespace on two modules

-- a mapping of two lines of 8 bytes, with a line of another module after each
abbrev striped : ℕ → ℕ → ℕ → Mapping
striped number offset start = record {
  «module» = number;
  size = 16;
  offset = offset;
  start = start;
  ways = 2;
  lines = Some (record { size = 8; offsets = 0 ∷ 2 ∷ [] });
  identity = record { vendor = 0; date = 0; location = 0; serial = 0 };
}

-- its words lie in module 1 at 0, in module 0 at 8, in module 1 at 8, and in module 0 at 16
abbrev four : Namespace
four = over (striped 1 0 0 ∷ striped 0 8 8 ∷ []) 0 16 []

-- which of its words, and of the two numbers after them, are bad
abbrev bad_in : List (Option (List ℕ)) → List Bool
bad_in objects = map (bad_words four objects) (range_with_len 0 6)

-- the last byte at 8, in module 0 and in module 1
by_module : (bad_in (Some (bytes 15 1) ∷ None ∷ []) ≡ false ∷ true ∷ false ∷ false ∷ false ∷ false ∷ [])
    × (bad_in (None ∷ Some (bytes 15 1) ∷ []) ≡ false ∷ false ∷ true ∷ false ∷ false ∷ false ∷ [])
unfolding bad_words records_of number_at
by_module = (refl, refl)

-- a range of both modules that goes on past their contents; the numbers past the last word aren't bad
both_modules : bad_in (Some (bytes 16 1000) ∷ Some (bytes 0 1000) ∷ []) ≡ true ∷ false ∷ true ∷ true ∷ false ∷ false ∷ []
unfolding bad_words records_of number_at
both_modules = refl

-- no records, and records of a third module
other_modules : (bad_in [] ≡ false ∷ false ∷ false ∷ false ∷ false ∷ false ∷ []) × (bad_in (Some [] ∷ None ∷ Some (bytes 0 1000) ∷ []) ≡ false ∷ false ∷ false ∷ false ∷ false ∷ false ∷ [])
unfolding bad_words records_of number_at
other_modules = (refl, refl)
