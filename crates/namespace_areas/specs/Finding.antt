-- Finding a sector namespace by its UUID: UEFI 2.10, section 13.19 (EFI_NVDIMM_LABEL: Uuid, Dpa, RawSize, AddressAbstractionGuid), with
-- this project's refusals in their order.
use Rattle.std.specs.Prelude.{◌≡◌, ℕ, ◌+◌, ◌%◌, ◌≤◌, ◌<◌, not, if◌then◌else◌, List, [], ◌∷◌, length, slice_index_or, Option, Some, None, Result, Ok, Err}
use Rattle.nfit_reader.specs.declared.table.Mapping.{Mapping}
use Rattle.interleave.specs.Places.{unit_of}
use Rattle.interleave.specs.Sound.{span_of}
use Rattle.label_codec.specs.declared.mode.Mode.{Mode}
use Rattle.label_set.specs.Rules.{mapping_of, counted_from}
use Rattle.region_space.specs.declared.extent.Extent.{Extent}
use Rattle.namespace_map.specs.Namespaces.{Part, NamespaceEntry}
use Rattle.namespace_map.specs.Commands.{is_complete, is_sector}
use Rattle.namespace_map.specs.declared.refused.OpRefused.{OpRefused}
use Rattle.namespace_map.specs.declared.refused.OpRefused.TheVariants.{NoSuch, NotComplete, NotSector}
use Rattle.namespace_areas.specs.declared.found.Found.{Found}

-- the interleave set of a region, by position
abbrev pub set_at : List (List Mapping) → ℕ → List Mapping
set_at sets region = slice_index_or sets region []

-- a namespace of a region by its extent on one module
abbrev pub found_at : List (List Mapping) → Mode → ℕ → Extent → Found
found_at sets mode region extent = record {
  region = region;
  offset = counted_from (mapping_of (set_at sets region) extent.«module») extent.start;
  raw = extent.length;
  mode = mode;
}

-- by its first label; a complete namespace has a label and a region
abbrev pub found_by : List (List Mapping) → Mode → Option ℕ → List Part → Result Found OpRefused
found_by sets mode (Some region) (part ∷ parts) = Ok (found_at sets mode region part.extent)
found_by sets mode region parts = Err NotComplete

-- by its entry, if a label names it
abbrev pub found_of : List (List Mapping) → Option NamespaceEntry → Result Found OpRefused
found_of sets None = Err NoSuch
found_of sets (Some e) =
    if not (is_complete e.status) then Err NotComplete
    else if not (is_sector e.mode) then Err NotSector
    else found_by sets e.mode e.region e.parts

-- it lies in its region's set, in whole units
pub record LiesInSet (sets : List (List Mapping)) (found : Found) : Type 0 where
  pub region : found.region < length sets
  pub from : found.offset % unit_of (set_at sets found.region) ≡ 0
  pub to : found.raw % unit_of (set_at sets found.region) ≡ 0
  pub inside : found.offset + found.raw ≤ span_of (set_at sets found.region)
