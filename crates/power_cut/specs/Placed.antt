-- The place of a namespace's words as something that lies beside them: this project's model.
use Rattle.std.specs.Prelude.{◌≡◌, ℕ, List, [], ◌∷◌, ◌++◌, length, map, Option, Some, None}
use Rattle.cut_words.specs.Words.{Words}
use Rattle.nfit_reader.specs.declared.table.Mapping.{Mapping}
use Rattle.nfit_reader.specs.declared.table.Lines.{Lines}
use Rattle.power_cut.specs.Namespace.{Namespace, beside_of}

-- A place is encoded in rows of numbers, which aren't words of a module. The lines of a mapping: their size, and each offset.
abbrev pub line_size_told : Option Lines → Option ℕ
line_size_told None = None
line_size_told (Some lines) = Some lines.size

abbrev pub offsets_told : Option Lines → List ℕ
offsets_told None = []
offsets_told (Some lines) = lines.offsets

-- all fields of a mapping
abbrev pub mapping_told : Mapping → Words
mapping_told m = record {
  kept = m.«module» ∷ m.size ∷ m.offset ∷ m.start ∷ m.ways ∷ m.identity.vendor ∷ m.identity.date ∷ m.identity.location ∷ m.identity.serial ∷ offsets_told m.lines;
  stored = line_size_told m.lines ∷ [];
}

-- the number of mappings of the set, and the extent in each of them
abbrev pub extent_told : Namespace → Words
extent_told n = record { kept = length n.set ∷ n.offset ∷ n.raw ∷ []; stored = [] }

-- the place of a namespace, and the words that aren't its own
unfoldable pub beside_and_place : Namespace → List Words
beside_and_place n = extent_told n ∷ (map mapping_told n.set ++ beside_of n)

-- two namespaces lie in the same place, and the same words lie beside them
pub record IsBesideSame (n n' : Namespace) : Type 0 where
  pub set : n'.set ≡ n.set
  pub offset : n'.offset ≡ n.offset
  pub raw : n'.raw ≡ n.raw
  pub beside : beside_of n' ≡ beside_of n

-- a law: equal `beside` with place means the same place
abbrev pub PlacedStay : Type 0
PlacedStay = (n n' : Namespace) → beside_and_place n' ≡ beside_and_place n → IsBesideSame n n'
