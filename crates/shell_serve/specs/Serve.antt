-- The command `serve`: the sessions of a script, on the namespaces that it opens. This project's rules.
use Rattle.std.specs.Prelude.{◌≡◌, ℕ, nat_lt, List, Option, Result, Ok, Err, MatchBool}
use Rattle.cut_words.specs.Words.{Words}
use Rattle.nfit_reader.specs.declared.table.Mapping.{Mapping}
use Rattle.namespace_map.specs.Areas.{Area}
use Rattle.namespace_map.specs.Changes.{namespaces_of, recovered_areas}
use Rattle.namespace_areas.specs.Steps.{Rows}
use Rattle.namespace_ops.specs.declared.registry.OpenFault.{OpenFault}
use Rattle.image_set.specs.Load.{ImageSet}
use Rattle.sector_namespaces.specs.View.{rows_of}
use Rattle.served_namespaces.specs.declared.places.OpenedNamespace.{OpenedNamespace}
use Rattle.served_namespaces.specs.Opening.{Broken, found_each, opened_each}
use Rattle.served_namespaces.specs.Reading.{opened_bytes}
use Rattle.session_script.specs.declared.script.Script.{Script}
use Rattle.shell_changes.specs.Areas.{areas_in}
use Rattle.shell_changes.specs.Namespaces.{sets_in}
use Rattle.shell_reports.specs.Faults.{arena_outcome, held_text, most_held, refused_outcome}
use Rattle.shell_reports.specs.List.{open_outcome}
use Rattle.shell_reports.specs.Outcome.{Outcome}
use Rattle.shell_serve.specs.Recovered.{recovered_words}
use Rattle.shell_serve.specs.Scripts.{opened_by}
use Rattle.shell_serve.specs.Serving.{Serves}
use Rattle.shell_serve.specs.Texts.{serve_text}

-- the namespaces that a script opens, of those that labels make: each that is found is opened, in order. One that isn't found is refused
-- to the session that opens it.
abbrev pub served_in : List (List Mapping) → List (Option Area) → ImageSet → Script → Result (List OpenedNamespace) Broken
served_in sets areas loaded script = opened_each sets (rows_of loaded.contents) (found_each sets (namespaces_of sets areas) (opened_by script))

-- on namespaces that are open: it is refused if their arenas have too many bytes together
abbrev pub OnHeld : (List OpenedNamespace → Outcome → Type 0) → List OpenedNamespace → Outcome → Type 0
OnHeld comes opened outcome = MatchBool (nat_lt most_held (opened_bytes opened)) (outcome ≡ refused_outcome (held_text (opened_bytes opened))) (comes opened outcome)

-- on the namespaces, or the first that has an arena that breaks the format
abbrev pub OnOpened : (List OpenedNamespace → Outcome → Type 0) → Result (List OpenedNamespace) Broken → Outcome → Type 0
OnOpened comes (Ok opened) outcome = OnHeld comes opened outcome
OnOpened comes (Err broken) outcome = outcome ≡ arena_outcome broken.uuid broken.fault

-- on label areas that recovery has left, with these words
abbrev pub OnRecovered : (List (Option Words) → List (Option (List ℕ)) → Type 0) → List (List Mapping) → ImageSet → List (Option Area) → Rows → Script → Outcome → Type 0
OnRecovered leaves sets loaded areas words script outcome = OnOpened (λ opened. Serves leaves serve_text sets loaded areas words opened script) (served_in sets areas loaded script) outcome

-- on interleave sets, or why there are none
abbrev pub ServesOnSets : (List (Option Words) → List (Option (List ℕ)) → Type 0) → ImageSet → Script → Result (List (List Mapping)) OpenFault → Outcome → Type 0
ServesOnSets leaves loaded script (Ok sets) outcome = OnRecovered leaves sets loaded (recovered_areas sets (areas_in loaded.labels)) (recovered_words sets loaded) script outcome
ServesOnSets leaves loaded script (Err fault) outcome = outcome ≡ open_outcome fault

-- what `serve` may come to on a set that is loaded: the table and the labels are checked, labels are recovered with power that stays on,
-- the namespaces are opened, unless their arenas have too many bytes together, and then the sessions run. `leaves` says what rows of words may be after a crash behind them.
abbrev pub ServeComes : (List (Option Words) → List (Option (List ℕ)) → Type 0) → Script → ImageSet → Outcome → Type 0
ServeComes leaves script loaded outcome = ServesOnSets leaves loaded script (sets_in loaded) outcome
