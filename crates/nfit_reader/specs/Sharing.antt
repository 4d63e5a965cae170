-- A law of tables: ACPI 6.5, section 5.2.25.2.
use Rattle.std.specs.Prelude.{◌≡◌, ◌≢◌, ◌⊎◌, ℕ, ◌+◌, ◌<◌, ◌≤◌, List, slice_get, Contains, Some, Ok}
use Rattle.nfit_reader.specs.declared.table.Mapping.{Mapping}
use Rattle.nfit_reader.specs.declared.table.Nfit.{Nfit}
use Rattle.nfit_reader.specs.declared.table.Region.{Region}
use Rattle.nfit_reader.specs.Table.{nfit_reading}

-- one ends before the other starts
abbrev pub EndsBefore : Mapping → Mapping → Type 0
EndsBefore m k = m.start + m.size ≤ k.start

-- a law: in a table that is read, no byte is in two nonempty mappings of one module into two regions
abbrev pub RegionsShareNoBytes : Type 0
RegionsShareNoBytes =
    (bytes : List ℕ) (nfit : Nfit) (i j : ℕ) (r s : Region) (m k : Mapping) → nfit_reading bytes ≡ Ok nfit → slice_get nfit.regions i ≡ Some r → slice_get nfit.regions j ≡ Some s → i ≢ j
    → Contains r.mappings m → Contains s.mappings k → m.«module» ≡ k.«module» → 0 < m.size → 0 < k.size → EndsBefore m k ⊎ EndsBefore k m
