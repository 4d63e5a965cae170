-- Why `import` ends with its status: this project's rules.
use Rattle.std.specs.Prelude.{ℕ, ◌*◌, ◌==◌, Bool, true, false, not, if◌then◌else◌, List, length, sum, Result, Ok, Err}
use Rattle.arena_open.specs.declared.state.ArenaState.{ArenaState}
use Rattle.arena_open.specs.declared.chain_refused.ChainRefused.{ChainRefused}
use Rattle.arena_open.specs.ChainCells.{sizes_of}
use Rattle.namespace_map.specs.Commands.{is_sector}
use Rattle.namespace_map.specs.declared.refused.OpRefused.{OpRefused}
use Rattle.namespace_areas.specs.declared.found.Found.{Found}
use Rattle.namespace_areas.specs.Finding.{set_at}
use Rattle.namespace_ops.specs.Opening.{sets_of}
use Rattle.image_set.specs.Load.{ImageSet}
use Rattle.sector_namespaces.specs.View.{rows_of, view_words}
use Rattle.shell_reports.specs.Causes.{opened_in}
use Rattle.shell_import.specs.Import.{place_in}

-- arenas whose sectors have another number of bytes
abbrev pub misfits : ℕ → Result (List ArenaState) ChainRefused → Bool
misfits said (Ok states) = not (said == sum (sizes_of states))
misfits said (Err fault) = false

abbrev pub bars_found : ImageSet → List ℕ → ℕ → Result Found OpRefused → Bool
bars_found loaded uuid said (Ok found) =
    if is_sector found.mode then misfits said (opened_in loaded uuid found)
    else not (said == 8 * length (view_words (set_at (sets_of loaded.nfit) found.region) found (rows_of loaded.contents)))
bars_found loaded uuid said (Err refusal) = true

-- the namespace isn't found, or it has another number of bytes
abbrev pub refuses_import : ImageSet → List ℕ → ℕ → Bool
refuses_import loaded uuid said = bars_found loaded uuid said (place_in loaded uuid)
