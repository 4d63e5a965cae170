-- Why `export` ends with its status: this project's rules.
use Rattle.std.specs.Prelude.{ℕ, Bool, true, false, ◌&&◌, ◌||◌, List, is_some, Result, Ok, Err, is_err}
use Rattle.arena_open.specs.declared.state.ArenaState.{ArenaState}
use Rattle.arena_open.specs.declared.chain_refused.ChainRefused.{ChainRefused}
use Rattle.namespace_map.specs.Namespaces.{entry_at}
use Rattle.namespace_map.specs.Commands.{is_sector}
use Rattle.namespace_map.specs.declared.refused.OpRefused.{OpRefused}
use Rattle.namespace_areas.specs.declared.found.Found.{Found}
use Rattle.namespace_ops.specs.Opening.{sets_of}
use Rattle.image_set.specs.Load.{ImageSet}
use Rattle.shell_reports.specs.List.{labels_in_set}
use Rattle.shell_reports.specs.Causes.{fault_in, opened_in}
use Rattle.shell_export.specs.Export.{place_of, refused_at}

-- the namespace of a UUID, of sectors or raw
abbrev pub placed_in : ImageSet → List ℕ → Result Found OpRefused
placed_in loaded uuid = place_of (sets_of loaded.nfit) (entry_at (sets_of loaded.nfit) (labels_in_set loaded) uuid)

-- ---- images that are refused

abbrev pub breaks_placed : ImageSet → List ℕ → Result Found OpRefused → Bool
breaks_placed loaded uuid (Ok found) = is_sector found.mode && is_err (opened_in loaded uuid found)
breaks_placed loaded uuid (Err refusal) = false

-- the table or the labels have a fault, or the namespace is found as one of sectors and one of its arenas breaks the format
abbrev pub breaks_export : ImageSet → List ℕ → Bool
breaks_export loaded uuid = is_some (fault_in loaded) || breaks_placed loaded uuid (placed_in loaded uuid)

-- ---- refusals

-- arenas that have a bad sector, unless bad sectors count as zeros
abbrev pub has_bad : Bool → Result (List ArenaState) ChainRefused → Bool
has_bad zeros (Ok states) = is_some (refused_at zeros states)
has_bad zeros (Err fault) = false

abbrev pub bars_placed : ImageSet → List ℕ → Bool → Result Found OpRefused → Bool
bars_placed loaded uuid zeros (Ok found) = is_sector found.mode && has_bad zeros (opened_in loaded uuid found)
bars_placed loaded uuid zeros (Err refusal) = true

-- the namespace isn't found, or it has a bad sector
abbrev pub refuses_export : ImageSet → List ℕ → Bool → Bool
refuses_export loaded uuid zeros = bars_placed loaded uuid zeros (placed_in loaded uuid)
