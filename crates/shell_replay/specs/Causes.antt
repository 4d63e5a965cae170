-- Why `replay` is refused: this project's rules.
use Rattle.std.specs.Prelude.{ℕ, nat_lt, not, Bool, true, false, List, [], ◌∷◌, Result, Ok, Err}
use Rattle.arena_open.specs.declared.state.ArenaState.{ArenaState}
use Rattle.arena_open.specs.declared.chain_refused.ChainRefused.{ChainRefused}
use Rattle.image_set.specs.Load.{ImageSet}
use Rattle.namespace_map.specs.declared.refused.OpRefused.{OpRefused}
use Rattle.namespace_areas.specs.declared.found.Found.{Found}
use Rattle.shell_reports.specs.Causes.{found_in, opened_in}
use Rattle.shell_reports.specs.Faults.{most_held}

-- these can be replayed: there is one arena, which isn't too large to be opened in memory
abbrev pub can_replay : List ArenaState → Bool
can_replay (state ∷ []) = not (nat_lt most_held state.info.layout.size)
can_replay states = false

-- the arenas are open, and can't be replayed
abbrev pub cannot_replay : Result (List ArenaState) ChainRefused → Bool
cannot_replay (Ok states) = not (can_replay states)
cannot_replay (Err fault) = false

abbrev pub refused_on : ImageSet → List ℕ → Result Found OpRefused → Bool
refused_on loaded uuid (Ok found) = cannot_replay (opened_in loaded uuid found)
refused_on loaded uuid (Err refusal) = true

-- the namespace isn't found, or it hasn't exactly one arena, or this is too large to be opened in memory
abbrev pub refuses_replay : ImageSet → List ℕ → Bool
refuses_replay loaded uuid = refused_on loaded uuid (found_in loaded uuid)
