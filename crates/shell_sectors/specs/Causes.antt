-- Why `write` is refused: this project's rules.
use Rattle.std.specs.Prelude.{ℕ, Bool, true, false, List, Result, Ok, Err, is_some}
use Rattle.arena_open.specs.declared.state.ArenaState.{ArenaState}
use Rattle.arena_open.specs.declared.chain_refused.ChainRefused.{ChainRefused}
use Rattle.image_set.specs.Load.{ImageSet}
use Rattle.namespace_map.specs.declared.refused.OpRefused.{OpRefused}
use Rattle.namespace_areas.specs.declared.found.Found.{Found}
use Rattle.session_script.specs.declared.payload.Payload.{Payload}
use Rattle.shell_reports.specs.Causes.{found_in, opened_in}
use Rattle.shell_sectors.specs.Write.{write_refusal}

-- the arenas don't take the value at the sector
abbrev pub bars : ℕ → Payload → Result (List ArenaState) ChainRefused → Bool
bars sector value (Ok states) = is_some (write_refusal sector value states)
bars sector value (Err fault) = false

abbrev pub bars_found : ImageSet → List ℕ → ℕ → Payload → Result Found OpRefused → Bool
bars_found loaded uuid sector value (Ok found) = bars sector value (opened_in loaded uuid found)
bars_found loaded uuid sector value (Err refusal) = true

-- the namespace isn't found, or it has no such sector, or the value doesn't have the sector's length
abbrev pub refuses_write : ImageSet → List ℕ → ℕ → Payload → Bool
refuses_write loaded uuid sector value = bars_found loaded uuid sector value (found_in loaded uuid)
