-- A raw namespace in the list of all namespaces.
use Rattle.std.specs.Prelude.{ℕ, not, if◌then◌else◌, List, ◌∷◌, Option, Some, None, Result, Ok, Err}
use Rattle.nfit_reader.specs.declared.table.Mapping.{Mapping}
use Rattle.label_codec.specs.declared.mode.Mode.{Mode}
use Rattle.region_space.specs.declared.extent.Extent.{Extent}
use Rattle.namespace_map.specs.Commands.{is_complete}
use Rattle.namespace_map.specs.declared.listed.Namespace.{Namespace}
use Rattle.namespace_map.specs.declared.refused.OpRefused.{OpRefused}
use Rattle.namespace_map.specs.declared.refused.OpRefused.TheVariants.{NoSuch, NotComplete, NotSector}
use Rattle.namespace_areas.specs.declared.found.Found.{Found}
use Rattle.namespace_areas.specs.Finding.{found_at}
use Rattle.shell_export.specs.Export.{is_raw}

-- by its region and its first extent
abbrev pub placed_by : List (List Mapping) → Mode → Option ℕ → List Extent → Result Found OpRefused
placed_by sets mode (Some region) (extent ∷ extents) = Ok (found_at sets mode region extent)
placed_by sets mode region extents = Err NotComplete

-- a complete raw namespace, or why it isn't one
abbrev pub raw_of : List (List Mapping) → Option Namespace → Result Found OpRefused
raw_of sets None = Err NoSuch
raw_of sets (Some ns) =
    if not (is_complete ns.status) then Err NotComplete
    else if not (is_raw ns.mode) then Err NotSector
    else placed_by sets ns.mode ns.region ns.extents
