-- The interleave sets of a table's regions: ACPI 6.5, section 5.2.25.
use Rattle.std.specs.Prelude.{◌≡◌, ℕ, List, slice_get, Some, Ok}
use Rattle.nfit_reader.specs.declared.table.Mapping.{Mapping}
use Rattle.nfit_reader.specs.declared.table.Nfit.{Nfit}
use Rattle.nfit_reader.specs.declared.table.Region.{Region}
use Rattle.nfit_reader.specs.Table.{nfit_reading}
use Rattle.nfit_reader.specs.Counted.{AreCounted}
use Rattle.interleave.specs.Sets.{set_reading}
use Rattle.namespace_map.specs.Left.{AreRegions}

-- each set is that of the region with its number
abbrev pub AreSetsOf : List Region → List (List Mapping) → Type 0
AreSetsOf regions sets = (i : ℕ) (set : List Mapping) → slice_get sets i ≡ Some set → (r : Region) × (slice_get regions i ≡ Some r) × (set_reading r ≡ Ok set)

-- a law: the sets of a table's regions share no bytes of a module
abbrev pub TablesGiveRegions : Type 0
TablesGiveRegions =
    (bytes : List ℕ) (nfit : Nfit) (sets : List (List Mapping)) → nfit_reading bytes ≡ Ok nfit → AreCounted nfit → AreSetsOf nfit.regions sets → AreRegions sets
