-- The command `init`: fresh index blocks in a module's label area, whole or after a crash.
use Rattle.std.specs.Prelude.{◌≡◌, ℕ, List, [], ◌∷◌, Option, Some, None, Result, Ok, Err}
use Rattle.cut_words.specs.Words.{Words}
use Rattle.cut_words.specs.WordBytes.{bytes_of}
use Rattle.label_area.specs.declared.fault.AreaFault.{AreaFault}
use Rattle.label_area.specs.declared.fault.AreaFault.TheVariants.{PowerCut}
use Rattle.label_area.specs.declared.fault.AreaRefused.{AreaRefused}
use Rattle.label_area.specs.State.{AreaState}
use Rattle.label_area.specs.Initialise.{initialised}
use Rattle.image_set.specs.Load.{ImageSet, area_of}
use Rattle.image_set.specs.Changed.{objects_of, with_area}
use Rattle.shell_reports.specs.declared.status.Ending.TheVariants as ending
use Rattle.shell_reports.specs.declared.power.Power.{Power}
use Rattle.shell_reports.specs.Outcome.{Outcome}
use Rattle.shell_reports.specs.Cut.{cut_text, done_text}
use Rattle.shell_reports.specs.Labels.{module_outcome, fault_outcome}
use Rattle.shell_reports.specs.Saved.{IsSaving}

-- if the area is refused, with the words that it then has: they are saved if power was cut, as the chooser leaves them
abbrev pub RefusedArea : (ℕ → List (Option Words) → List (Option (List ℕ)) → Type 0) → ℕ → Power → ImageSet → Words → AreaFault → Outcome → Type 0
RefusedArea leaves m power loaded words PowerCut outcome =
    (left : List ℕ) × (steps : ℕ) × (power.steps ≡ Some steps) × leaves power.seed (Some words ∷ []) (Some left ∷ [])
    × IsSaving ending.PowerCut (cut_text steps) (objects_of (with_area loaded m (bytes_of left))) outcome
RefusedArea leaves m power loaded words fault outcome = outcome ≡ fault_outcome m fault

abbrev pub InitArea : (ℕ → List (Option Words) → List (Option (List ℕ)) → Type 0) → ℕ → Power → ImageSet → Result AreaState AreaRefused → Outcome → Type 0
InitArea leaves m power loaded (Ok area) outcome = IsSaving ending.Done done_text (objects_of (with_area loaded m (bytes_of area.words.kept))) outcome
InitArea leaves m power loaded (Err refused) outcome = RefusedArea leaves m power loaded refused.words refused.fault outcome

-- by the module's label area; there is none if the table doesn't name the module, or it has no area
abbrev pub InitModule : (ℕ → List (Option Words) → List (Option (List ℕ)) → Type 0) → ℕ → Power → ImageSet → Option (List ℕ) → Outcome → Type 0
InitModule leaves m power loaded None outcome = outcome ≡ module_outcome m None
InitModule leaves m power loaded (Some area) outcome =
    (values : List ℕ) × (bytes_of values ≡ area) × InitArea leaves m power loaded (initialised values power.steps) outcome

-- what `init M` may come to on a set that is loaded, whose label areas have a label area's size
abbrev pub InitComes : (ℕ → List (Option Words) → List (Option (List ℕ)) → Type 0) → ℕ → Power → ImageSet → Outcome → Type 0
InitComes leaves m power loaded outcome = InitModule leaves m power loaded (area_of loaded m) outcome
