-- What a registry of namespaces is opened on, or why it isn't: UEFI 2.10, section 13.19, with this project's rules.
use Rattle.std.specs.Prelude.{◌≡◌, ℕ, ◌+◌, List, [], ◌∷◌, map, Option, None, Result, Ok, Err}
use Rattle.std.specs.Option.{option_map}
use Rattle.std.specs.Result.{result_err}
use Rattle.nvd_words.specs.Checks.{first_fault, value_unless}
use Rattle.nfit_reader.specs.declared.table.Mapping.{Mapping}
use Rattle.nfit_reader.specs.declared.table.Nfit.{Nfit}
use Rattle.nfit_reader.specs.declared.table.Region.{Region}
use Rattle.nfit_reader.specs.Table.{nfit_reading}
use Rattle.interleave.specs.declared.set.SetFault.{SetFault}
use Rattle.interleave.specs.declared.set.SetFault.TheVariants as set
use Rattle.interleave.specs.Sets.{set_reading}
use Rattle.label_set.specs.declared.placed.Placed.{Placed}
use Rattle.region_space.specs.declared.extent.SpaceFault.{SpaceFault}
use Rattle.region_space.specs.declared.extent.SpaceFault.TheVariants as space
use Rattle.region_space.specs.Space.{overlap_of}
use Rattle.namespace_map.specs.Namespaces.{extent_of}
use Rattle.namespace_areas.specs.declared.area.Area.{Area}
use Rattle.namespace_areas.specs.Areas.{labels_of}
use Rattle.namespace_ops.specs.declared.registry.OpenFault.{OpenFault}
use Rattle.namespace_ops.specs.declared.registry.OpenFault.TheVariants.{Set, Overlap, OutOfMemory}
use Rattle.namespace_ops.specs.Registered.{Registered, opened_on}

-- ---- opening

-- the fault of a region that is no interleave set; out of memory is no finding
abbrev pub set_fault_as : ℕ → SetFault → OpenFault
set_fault_as number set.OutOfMemory = OutOfMemory
set_fault_as number fault = Set number fault

abbrev pub set_as : ℕ → Result (List Mapping) SetFault → Result (List Mapping) OpenFault
set_as number (Ok set) = Ok set
set_as number (Err fault) = Err (set_fault_as number fault)

-- the interleave set of a region, or its fault
abbrev pub set_or_fault : ℕ → Region → Result (List Mapping) OpenFault
set_or_fault number region = set_as number (set_reading region)

-- the first region that is no interleave set, from a number on
unfoldable pub set_fault_from : ℕ → List Region → Option OpenFault
set_fault_from number [] = None
set_fault_from number (region ∷ regions) = first_fault (result_err (set_or_fault number region) ∷ set_fault_from (number + 1) regions ∷ [])

abbrev pub set_in : Result (List Mapping) SetFault → List Mapping
set_in (Ok set) = set
set_in (Err fault) = []

-- the interleave sets of a table, by region number
abbrev pub sets_of : Nfit → List (List Mapping)
sets_of nfit = map (λ region. set_in (set_reading region)) nfit.regions

-- extents of two owners that meet
abbrev pub overlap_as : SpaceFault → OpenFault
overlap_as (space.Overlap a b) = Overlap a b
overlap_as space.OutOfMemory = OutOfMemory

abbrev pub overlap_fault : List Placed → Option OpenFault
overlap_fault labels = option_map overlap_as (overlap_of (map extent_of labels))

-- a registry on the sets and the areas, or the first of these faults: a region that is no set; extents that meet
unfoldable pub registry_opening : Nfit → List Area → Result Registered OpenFault
registry_opening nfit areas = value_unless (opened_on (sets_of nfit) areas) (first_fault (set_fault_from 0 nfit.regions ∷ overlap_fault (labels_of areas) ∷ []))

-- the table was read from bytes
abbrev pub WasRead : Nfit → Type 0
WasRead nfit = (bytes : List ℕ) × (nfit_reading bytes ≡ Ok nfit)
