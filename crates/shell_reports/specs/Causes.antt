-- Why a command on the arenas of a namespace ends with its status: this project's rules.
use Rattle.std.specs.Prelude.{ℕ, nat_lt, Bool, true, false, ◌||◌, not, List, Option, is_some, Result, Ok, Err, is_err}
use Rattle.arena_open.specs.declared.state.ArenaState.{ArenaState}
use Rattle.arena_open.specs.declared.chain_refused.ChainRefused.{ChainRefused}
use Rattle.arena_open.specs.ChainCells.{sectors_of}
use Rattle.namespace_map.specs.Namespaces.{entry_at}
use Rattle.namespace_map.specs.declared.refused.OpRefused.{OpRefused}
use Rattle.namespace_areas.specs.declared.found.Found.{Found}
use Rattle.namespace_areas.specs.Finding.{found_of, set_at}
use Rattle.namespace_ops.specs.declared.registry.OpenFault.{OpenFault}
use Rattle.namespace_ops.specs.Opening.{sets_of}
use Rattle.image_set.specs.Load.{ImageSet}
use Rattle.sector_namespaces.specs.View.{rows_of, view_words, opened_view}
use Rattle.shell_reports.specs.List.{labels_in_set}
use Rattle.shell_reports.specs.Sectors.{registry_fault}

-- a region that isn't an interleave set, or labels with overlapping extents
abbrev pub fault_in : ImageSet → Option OpenFault
fault_in loaded = registry_fault loaded.nfit (labels_in_set loaded)

-- the namespace of a UUID
abbrev pub found_in : ImageSet → List ℕ → Result Found OpRefused
found_in loaded uuid = found_of (sets_of loaded.nfit) (entry_at (sets_of loaded.nfit) (labels_in_set loaded) uuid)

-- its arenas
abbrev pub opened_in : ImageSet → List ℕ → Found → Result (List ArenaState) ChainRefused
opened_in loaded uuid found = opened_view (view_words (set_at (sets_of loaded.nfit) found.region) found (rows_of loaded.contents)) uuid

abbrev pub breaks : ImageSet → List ℕ → Result Found OpRefused → Bool
breaks loaded uuid (Ok found) = is_err (opened_in loaded uuid found)
breaks loaded uuid (Err refusal) = false

-- the images are refused: the table or the labels have a fault, or the namespace is found and one of its arenas breaks the format
abbrev pub is_broken : ImageSet → List ℕ → Bool
is_broken loaded uuid = is_some (fault_in loaded) || breaks loaded uuid (found_in loaded uuid)

-- ---- refusals

-- arenas that don't have a sector
abbrev pub lacks : ℕ → Result (List ArenaState) ChainRefused → Bool
lacks sector (Ok states) = not (nat_lt sector (sectors_of states))
lacks sector (Err fault) = false

abbrev pub lacks_found : ImageSet → List ℕ → ℕ → Result Found OpRefused → Bool
lacks_found loaded uuid sector (Ok found) = lacks sector (opened_in loaded uuid found)
lacks_found loaded uuid sector (Err refusal) = true

abbrev pub is_unfound : Result Found OpRefused → Bool
is_unfound (Ok found) = false
is_unfound (Err refusal) = true

-- the namespace isn't found
abbrev pub refuses_info : ImageSet → List ℕ → Bool
refuses_info loaded uuid = is_unfound (found_in loaded uuid)

-- the namespace isn't found, or it has no such sector
abbrev pub refuses_read : ImageSet → List ℕ → ℕ → Bool
refuses_read loaded uuid sector = lacks_found loaded uuid sector (found_in loaded uuid)
