-- Laws of `serve` and `load`.
use Rattle.std.specs.Prelude.{◌≡◌, ℕ, Bool, true, false, List, [], map, None, Option}
use Rattle.std.specs.Option.{option_map}
use Rattle.cut_words.specs.WordBytes.{bytes_of}
use Rattle.cut_words.specs.Words.{Words}
use Rattle.nfit_reader.specs.declared.table.Mapping.{Mapping}
use Rattle.namespace_laws.specs.Apart.{EntriesApart}
use Rattle.namespace_map.specs.Areas.{Area}
use Rattle.namespace_map.specs.Changes.{namespaces_of}
use Rattle.image_set.specs.Load.{ImageSet}
use Rattle.session_account.specs.declared.reply.Reply.{Reply}
use Rattle.session_script.specs.declared.script.Script.{Script}
use Rattle.shell_changes.specs.Areas.{areas_in}
use Rattle.shell_changes.specs.Remains.{LeavesBy}
use Rattle.shell_reports.specs.declared.status.Ending.{Ending}
use Rattle.shell_reports.specs.declared.status.Ending.TheVariants as ending
use Rattle.shell_reports.specs.Outcome.{Outcome}
use Rattle.shell_serve.specs.declared.load.Load.{Load}
use Rattle.shell_serve.specs.Causes.{breaks_load, breaks_serve, refuses_load, refuses_serve}
use Rattle.shell_serve.specs.Load.{LoadComes}
use Rattle.shell_serve.specs.Serve.{ServeComes}
use Rattle.shell_serve.specs.Serving.{Serves}

abbrev pub no_sessions : Script
no_sessions = record { labelcut = None; sessions = [] }

-- a law: without sessions nothing is printed but the text for no reply, and a set is saved; by any chooser that is begun
abbrev pub EmptyServes : {C : Type 0} → (C → ℕ → C → Type 0) → (C → ℕ → Bool → C → Type 0) → C → Type 0
EmptyServes {C} begins picks choose = (seed : ℕ) (begun : C) → begins choose seed begun
    → (text : List (List Reply) → List ℕ) (sets : List (List Mapping)) (loaded : ImageSet) (labels : List (Option (List ℕ))) (areas : List (Option Area))
    → loaded.labels ≡ map (option_map bytes_of) labels → areas_in loaded.labels ≡ areas → EntriesApart (namespaces_of sets areas)
    → (outcome : Outcome) × Serves (LeavesBy begins picks choose seed) text sets loaded areas labels [] no_sessions outcome × (outcome.text ≡ text [])

-- which ending is due, by whether the images are refused and whether the command is
abbrev pub ending_by : Bool → Bool → Ending
ending_by true barred = ending.Image
ending_by false true = ending.Refused
ending_by false false = ending.Done

-- a law: the ending is the one that is due, whatever was cut
abbrev pub ServeEndsDue : (List (Option Words) → List (Option (List ℕ)) → Type 0) → Type 0
ServeEndsDue leaves = (script : Script) (loaded : ImageSet) (outcome : Outcome) → ServeComes leaves script loaded outcome → outcome.ending ≡ ending_by (breaks_serve loaded script) (refuses_serve loaded script)

abbrev pub LoadEndsDue : (List (Option Words) → List (Option (List ℕ)) → Type 0) → Type 0
LoadEndsDue leaves = (l : Load) (loaded : ImageSet) (outcome : Outcome) → LoadComes leaves l loaded outcome → outcome.ending ≡ ending_by (breaks_load l loaded) (refuses_load l loaded)
