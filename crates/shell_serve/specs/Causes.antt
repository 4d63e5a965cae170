-- Why `serve` and `load` end with their statuses: this project's rules.
use Rattle.std.specs.Prelude.{◌||◌, nat_lt, Bool, true, false, List, Option, Result, Ok, Err, is_err}
use Rattle.nfit_reader.specs.declared.table.Mapping.{Mapping}
use Rattle.arena_open.specs.declared.chain_refused.ChainRefused.{ChainRefused}
use Rattle.arena_open.specs.declared.state.ArenaState.{ArenaState}
use Rattle.arena_open.specs.ChainCells.{sectors_of}
use Rattle.namespace_map.specs.declared.refused.OpRefused.{OpRefused}
use Rattle.namespace_map.specs.Areas.{Area}
use Rattle.namespace_map.specs.Changes.{namespaces_of, recovered_areas}
use Rattle.namespace_map.specs.Namespaces.{lookup}
use Rattle.namespace_areas.specs.declared.found.Found.{Found}
use Rattle.namespace_areas.specs.Finding.{found_of}
use Rattle.namespace_ops.specs.declared.registry.OpenFault.{OpenFault}
use Rattle.image_set.specs.Load.{ImageSet}
use Rattle.sector_namespaces.specs.View.{opened_view, rows_of}
use Rattle.served_namespaces.specs.declared.places.OpenedNamespace.{OpenedNamespace}
use Rattle.served_namespaces.specs.Opening.{Broken}
use Rattle.served_namespaces.specs.Places.{words_at}
use Rattle.served_namespaces.specs.Reading.{opened_bytes}
use Rattle.session_script.specs.declared.script.Script.{Script}
use Rattle.shell_changes.specs.Areas.{areas_in}
use Rattle.shell_changes.specs.Namespaces.{sets_in}
use Rattle.shell_serve.specs.declared.load.Load.{Load}
use Rattle.shell_reports.specs.Faults.{most_held}
use Rattle.shell_serve.specs.Load.{one_opened}
use Rattle.shell_serve.specs.Serve.{served_in}

-- ---- `serve`

abbrev pub breaks_on : ImageSet → Script → Result (List (List Mapping)) OpenFault → Bool
breaks_on loaded script (Ok sets) = is_err (served_in sets (recovered_areas sets (areas_in loaded.labels)) loaded script)
breaks_on loaded script (Err fault) = true

-- the images are refused: the table or the labels have a fault, or an arena of a namespace that the script opens breaks the format
abbrev pub breaks_serve : ImageSet → Script → Bool
breaks_serve loaded script = breaks_on loaded script (sets_in loaded)

-- these are opened, and have too many bytes together
abbrev pub are_large : Result (List OpenedNamespace) Broken → Bool
are_large (Ok opened) = nat_lt most_held (opened_bytes opened)
are_large (Err broken) = false

abbrev pub bars_on : ImageSet → Script → Result (List (List Mapping)) OpenFault → Bool
bars_on loaded script (Ok sets) = are_large (served_in sets (recovered_areas sets (areas_in loaded.labels)) loaded script)
bars_on loaded script (Err fault) = false

-- the arenas of the namespaces that the script opens have too many bytes together
abbrev pub refuses_serve : ImageSet → Script → Bool
refuses_serve loaded script = bars_on loaded script (sets_in loaded)

-- ---- `load`

-- the namespace, once labels are recovered
abbrev pub found_on : Load → List (List Mapping) → List (Option Area) → Result Found OpRefused
found_on l sets areas = found_of sets (lookup l.uuid (namespaces_of sets areas).entries)

-- its arenas
abbrev pub arenas_on : Load → List (List Mapping) → ImageSet → Found → Result (List ArenaState) ChainRefused
arenas_on l sets loaded found = opened_view (words_at sets found (rows_of loaded.contents)) l.uuid

abbrev pub breaks_found : Load → List (List Mapping) → ImageSet → Result Found OpRefused → Bool
breaks_found l sets loaded (Ok found) = is_err (arenas_on l sets loaded found)
breaks_found l sets loaded (Err refusal) = false

abbrev pub breaks_sets : Load → ImageSet → Result (List (List Mapping)) OpenFault → Bool
breaks_sets l loaded (Ok sets) = breaks_found l sets loaded (found_on l sets (recovered_areas sets (areas_in loaded.labels)))
breaks_sets l loaded (Err fault) = true

-- the images are refused: the table or the labels have a fault, or the namespace is found and one of its arenas breaks the format
abbrev pub breaks_load : Load → ImageSet → Bool
breaks_load l loaded = breaks_sets l loaded (sets_in loaded)

-- arenas with too many bytes together, or with fewer sectors than there are sessions
abbrev pub are_barred : Load → Found → Result (List ArenaState) ChainRefused → Bool
are_barred l found (Ok states) = nat_lt most_held (opened_bytes (one_opened l found states)) || nat_lt (sectors_of states) l.sessions
are_barred l found (Err fault) = false

abbrev pub bars_found : Load → List (List Mapping) → ImageSet → Result Found OpRefused → Bool
bars_found l sets loaded (Ok found) = are_barred l found (arenas_on l sets loaded found)
bars_found l sets loaded (Err refusal) = true

abbrev pub bars_sets : Load → ImageSet → Result (List (List Mapping)) OpenFault → Bool
bars_sets l loaded (Ok sets) = bars_found l sets loaded (found_on l sets (recovered_areas sets (areas_in loaded.labels)))
bars_sets l loaded (Err fault) = false

-- the namespace isn't found, its arenas have too many bytes together, or it has fewer sectors than there are sessions
abbrev pub refuses_load : Load → ImageSet → Bool
refuses_load l loaded = bars_sets l loaded (sets_in loaded)
