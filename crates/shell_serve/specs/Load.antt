-- The command `load`: a script that is made from a number is served on one namespace, and summed up. This project's rules.
use Rattle.std.specs.Prelude.{◌≡◌, ℕ, nat_lt, List, [], ◌∷◌, Option, Result, Ok, Err, MatchBool}
use Rattle.cut_words.specs.Words.{Words}
use Rattle.nfit_reader.specs.declared.table.Mapping.{Mapping}
use Rattle.arena_open.specs.declared.chain_refused.ChainRefused.{ChainRefused}
use Rattle.arena_open.specs.declared.state.ArenaState.{ArenaState}
use Rattle.arena_open.specs.ChainCells.{sectors_of}
use Rattle.namespace_map.specs.declared.refused.OpRefused.{OpRefused}
use Rattle.namespace_map.specs.Areas.{Area}
use Rattle.namespace_map.specs.Changes.{namespaces_of, recovered_areas}
use Rattle.namespace_map.specs.Namespaces.{lookup}
use Rattle.namespace_areas.specs.declared.found.Found.{Found}
use Rattle.namespace_areas.specs.Finding.{found_of}
use Rattle.namespace_areas.specs.Steps.{Rows}
use Rattle.namespace_ops.specs.declared.registry.OpenFault.{OpenFault}
use Rattle.image_set.specs.Load.{ImageSet}
use Rattle.sector_namespaces.specs.View.{opened_view, rows_of}
use Rattle.served_namespaces.specs.declared.places.OpenedNamespace.{OpenedNamespace}
use Rattle.served_namespaces.specs.Places.{words_at}
use Rattle.session_script.specs.declared.script.Script.{Script}
use Rattle.session_script.specs.Load.{load_script}
use Rattle.shell_changes.specs.Areas.{areas_in}
use Rattle.shell_changes.specs.Namespaces.{sets_in}
use Rattle.shell_reports.specs.Faults.{arena_outcome, range_text, refusal_text, refused_outcome}
use Rattle.shell_reports.specs.List.{open_outcome}
use Rattle.shell_reports.specs.Outcome.{Outcome}
use Rattle.shell_serve.specs.declared.load.Load.{Load}
use Rattle.shell_serve.specs.Recovered.{recovered_words}
use Rattle.shell_serve.specs.Serve.{OnHeld}
use Rattle.shell_serve.specs.Serving.{Serves}
use Rattle.shell_serve.specs.Texts.{summary}

-- the script that is made for a namespace with so many sectors
abbrev pub script_for : Load → ℕ → Script
script_for l sectors = load_script l.number l.uuid sectors l.sessions l.calls

-- its one namespace
abbrev pub one_opened : Load → Found → List ArenaState → List OpenedNamespace
one_opened l found states = record { place = record { uuid = l.uuid; found = found }; states = states } ∷ []

abbrev pub LoadsOn : (List (Option Words) → List (Option (List ℕ)) → Type 0) → Load → List (List Mapping) → ImageSet → List (Option Area) → Rows → Found → List ArenaState → Outcome → Type 0
LoadsOn leaves l sets loaded areas words found states outcome =
    Serves leaves (summary (script_for l (sectors_of states))) sets loaded areas words (one_opened l found states) (script_for l (sectors_of states)) outcome

-- on its arenas that are open: it is refused if the namespace has fewer sectors than there are sessions
abbrev pub LoadsOnStates : (List (Option Words) → List (Option (List ℕ)) → Type 0) → Load → List (List Mapping) → ImageSet → List (Option Area) → Rows → Found → List ArenaState → Outcome → Type 0
LoadsOnStates leaves l sets loaded areas words found states outcome =
    MatchBool (nat_lt (sectors_of states) l.sessions) (outcome ≡ refused_outcome (range_text (sectors_of states))) (LoadsOn leaves l sets loaded areas words found states outcome)

-- on its arenas: it is refused if they have too many bytes together
abbrev pub LoadsOnArenas : (List (Option Words) → List (Option (List ℕ)) → Type 0) → Load → List (List Mapping) → ImageSet → List (Option Area) → Rows → Found → Result (List ArenaState) ChainRefused → Outcome → Type 0
LoadsOnArenas leaves l sets loaded areas words found (Ok states) outcome = OnHeld (λ opened. LoadsOnStates leaves l sets loaded areas words found states) (one_opened l found states) outcome
LoadsOnArenas leaves l sets loaded areas words found (Err fault) outcome = outcome ≡ arena_outcome l.uuid fault

-- on the namespace, or why it isn't found
abbrev pub LoadsOnFound : (List (Option Words) → List (Option (List ℕ)) → Type 0) → Load → List (List Mapping) → ImageSet → List (Option Area) → Rows → Result Found OpRefused → Outcome → Type 0
LoadsOnFound leaves l sets loaded areas words (Ok found) outcome = LoadsOnArenas leaves l sets loaded areas words found (opened_view (words_at sets found (rows_of loaded.contents)) l.uuid) outcome
LoadsOnFound leaves l sets loaded areas words (Err refusal) outcome = outcome ≡ refused_outcome (refusal_text refusal)

-- on label areas that recovery has left, with these words
abbrev pub LoadsRecovered : (List (Option Words) → List (Option (List ℕ)) → Type 0) → Load → List (List Mapping) → ImageSet → List (Option Area) → Rows → Outcome → Type 0
LoadsRecovered leaves l sets loaded areas words outcome = LoadsOnFound leaves l sets loaded areas words (found_of sets (lookup l.uuid (namespaces_of sets areas).entries)) outcome

-- on interleave sets, or why there are none
abbrev pub LoadsOnSets : (List (Option Words) → List (Option (List ℕ)) → Type 0) → Load → ImageSet → Result (List (List Mapping)) OpenFault → Outcome → Type 0
LoadsOnSets leaves l loaded (Ok sets) outcome = LoadsRecovered leaves l sets loaded (recovered_areas sets (areas_in loaded.labels)) (recovered_words sets loaded) outcome
LoadsOnSets leaves l loaded (Err fault) outcome = outcome ≡ open_outcome fault

-- what `load` may come to on a set that is loaded: as `serve` up to the namespaces; then the namespace is found, its arenas are opened,
-- unless they have too many bytes together, and the script is made and served. `leaves` is as for `serve`.
abbrev pub LoadComes : (List (Option Words) → List (Option (List ℕ)) → Type 0) → Load → ImageSet → Outcome → Type 0
LoadComes leaves l loaded outcome = LoadsOnSets leaves l loaded (sets_in loaded) outcome
