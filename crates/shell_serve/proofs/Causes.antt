-- `serve` and `load` end as they are due.
use Rattle.std.proofs.Common.{◌≡◌, ℕ, Bool, true, false, List, Option, Result, Ok, Err}
use Rattle.std.specs.Prelude.{◌||◌, MatchBool, nat_lt, is_err}
use Rattle.cut_words.specs.Words.{Words}
use Rattle.nfit_reader.specs.declared.table.Mapping.{Mapping}
use Rattle.arena_open.specs.declared.chain_refused.ChainRefused.{ChainRefused}
use Rattle.arena_open.specs.declared.state.ArenaState.{ArenaState}
use Rattle.arena_open.specs.ChainCells.{sectors_of}
use Rattle.namespace_map.specs.declared.refused.OpRefused.{OpRefused}
use Rattle.namespace_map.specs.Areas.{Area}
use Rattle.namespace_map.specs.Changes.{recovered_areas}
use Rattle.namespace_areas.specs.declared.found.Found.{Found}
use Rattle.namespace_areas.specs.Steps.{Rows}
use Rattle.namespace_ops.specs.declared.registry.OpenFault.{OpenFault}
use Rattle.image_set.specs.Load.{ImageSet}
use Rattle.served_namespaces.specs.declared.places.OpenedNamespace.{OpenedNamespace}
use Rattle.served_namespaces.specs.Opening.{Broken}
use Rattle.session_script.specs.declared.script.Script.{Script}
use Rattle.shell_changes.specs.Areas.{areas_in}
use Rattle.shell_changes.specs.Namespaces.{sets_in}
use Rattle.served_namespaces.specs.Reading.{opened_bytes}
use Rattle.shell_reports.specs.declared.status.Ending.TheVariants as ending
use Rattle.shell_reports.specs.Faults.{held_text, most_held, range_text, refused_outcome}
use Rattle.shell_reports.specs.Outcome.{Outcome}
use Rattle.shell_reports.proofs.More.{ending_of}
use Rattle.shell_serve.specs.declared.load.Load.{Load}
use Rattle.shell_serve.specs.Causes.{are_barred, are_large, arenas_on, bars_found, bars_on, bars_sets, breaks_found, breaks_on, breaks_sets, found_on}
use Rattle.shell_serve.specs.Laws.{LoadEndsDue, ServeEndsDue, ending_by}
use Rattle.shell_serve.specs.Load.{LoadsOnArenas, LoadsOnFound, LoadsOnSets, LoadsOn, LoadsOnStates, one_opened}
use Rattle.shell_serve.specs.Recovered.{recovered_words}
use Rattle.shell_serve.specs.Serve.{OnOpened, ServesOnSets, served_in}
use Rattle.shell_serve.specs.Serving.{Serves}
use Rattle.shell_serve.specs.Texts.{serve_text}

-- ---- `serve`

held_on : (comes : List OpenedNamespace → Outcome → Type 0) (outcome : Outcome) (opened : List OpenedNamespace) (b : Bool) → (comes opened outcome → outcome.ending ≡ ending.Done)
    → MatchBool b (outcome ≡ refused_outcome (held_text (opened_bytes opened))) (comes opened outcome) → outcome.ending ≡ ending_by false b
held_on comes outcome opened true done said = ending_of outcome _ said
held_on comes outcome opened false done serves = done serves

serve_on : (leaves : List (Option Words) → List (Option (List ℕ)) → Type 0) (sets : List (List Mapping)) (loaded : ImageSet) (areas : List (Option Area)) (words : Rows) (script : Script) (outcome : Outcome) (r : Result (List OpenedNamespace) Broken)
    → OnOpened (λ opened. Serves leaves serve_text sets loaded areas words opened script) r outcome → outcome.ending ≡ ending_by (is_err r) (are_large r)
serve_on leaves sets loaded areas words script outcome (Ok opened) comes =
    held_on (λ opened. Serves leaves serve_text sets loaded areas words opened script) outcome opened (nat_lt most_held (opened_bytes opened)) (λ serves. serves.saved.saves.ends) comes
serve_on leaves sets loaded areas words script outcome (Err broken) said = ending_of outcome _ said

serve_by : (leaves : List (Option Words) → List (Option (List ℕ)) → Type 0) (script : Script) (loaded : ImageSet) (outcome : Outcome) (r : Result (List (List Mapping)) OpenFault) → ServesOnSets leaves loaded script r outcome
    → outcome.ending ≡ ending_by (breaks_on loaded script r) (bars_on loaded script r)
serve_by leaves script loaded outcome (Ok sets) comes =
    serve_on leaves sets loaded (recovered_areas sets (areas_in loaded.labels)) (recovered_words sets loaded) script outcome (served_in sets (recovered_areas sets (areas_in loaded.labels)) loaded script) comes
serve_by leaves script loaded outcome (Err fault) said = ending_of outcome _ said

pub serve_due : (leaves : List (Option Words) → List (Option (List ℕ)) → Type 0) → ServeEndsDue leaves
serve_due leaves script loaded outcome comes = serve_by leaves script loaded outcome (sets_in loaded) comes

-- ---- `load`

module _ (leaves : List (Option Words) → List (Option (List ℕ)) → Type 0) (l : Load) (loaded : ImageSet) (outcome : Outcome) (sets : List (List Mapping)) (areas : List (Option Area)) (words : Rows) (found : Found) where
  load_few : (states : List ArenaState) (b : Bool) → MatchBool b (outcome ≡ refused_outcome (range_text (sectors_of states))) (LoadsOn leaves l sets loaded areas words found states outcome) → outcome.ending ≡ ending_by false b
  load_few states true said = ending_of outcome _ said
  load_few states false serves = serves.saved.saves.ends

  load_held : (states : List ArenaState) (b : Bool) → MatchBool b (outcome ≡ refused_outcome (held_text (opened_bytes (one_opened l found states)))) (LoadsOnStates leaves l sets loaded areas words found states outcome)
      → outcome.ending ≡ ending_by false (b || nat_lt (sectors_of states) l.sessions)
  load_held states true said = ending_of outcome _ said
  load_held states false comes = load_few states (nat_lt (sectors_of states) l.sessions) comes

  load_arenas : (r : Result (List ArenaState) ChainRefused) → LoadsOnArenas leaves l sets loaded areas words found r outcome → outcome.ending ≡ ending_by (is_err r) (are_barred l found r)
  load_arenas (Ok states) comes = load_held states (nat_lt most_held (opened_bytes (one_opened l found states))) comes
  load_arenas (Err fault) said = ending_of outcome _ said

load_found : (leaves : List (Option Words) → List (Option (List ℕ)) → Type 0) (l : Load) (loaded : ImageSet) (outcome : Outcome) (sets : List (List Mapping)) (areas : List (Option Area)) (words : Rows) (r : Result Found OpRefused) → LoadsOnFound leaves l sets loaded areas words r outcome
    → outcome.ending ≡ ending_by (breaks_found l sets loaded r) (bars_found l sets loaded r)
load_found leaves l loaded outcome sets areas words (Ok found) comes = load_arenas leaves l loaded outcome sets areas words found (arenas_on l sets loaded found) comes
load_found leaves l loaded outcome sets areas words (Err refusal) said = ending_of outcome _ said

load_by : (leaves : List (Option Words) → List (Option (List ℕ)) → Type 0) (l : Load) (loaded : ImageSet) (outcome : Outcome) (r : Result (List (List Mapping)) OpenFault) → LoadsOnSets leaves l loaded r outcome → outcome.ending ≡ ending_by (breaks_sets l loaded r) (bars_sets l loaded r)
load_by leaves l loaded outcome (Ok sets) comes =
    load_found leaves l loaded outcome sets (recovered_areas sets (areas_in loaded.labels)) (recovered_words sets loaded) (found_on l sets (recovered_areas sets (areas_in loaded.labels))) comes
load_by leaves l loaded outcome (Err fault) said = ending_of outcome _ said

pub load_due : (leaves : List (Option Words) → List (Option (List ℕ)) → Type 0) → LoadEndsDue leaves
load_due leaves l loaded outcome comes = load_by leaves l loaded outcome (sets_in loaded) comes
