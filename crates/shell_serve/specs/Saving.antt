-- The set that is saved after sessions: this project's rules.
use Rattle.std.specs.Prelude.{◌≡◌, ℕ, Bool, List, map, Option, Some}
use Rattle.cut_words.specs.Words.{Words}
use Rattle.power_cut.specs.Left.{InTurn, LeavesOption}
use Rattle.image_set.specs.declared.changing.OutlineLeft.{OutlineLeft}
use Rattle.image_set.specs.declared.changing.OutlineRest.{OutlineRest}
use Rattle.namespace_areas.specs.declared.area.Area.{Area}
use Rattle.namespace_areas.specs.Seen.{AreLeft, words_of}
use Rattle.namespace_bytes.specs.Patching.{BytePatch}
use Rattle.shell_changes.specs.declared.answer.Answer.{Answer}
use Rattle.shell_changes.specs.declared.answer.Left.TheVariants.{Patched}
use Rattle.shell_reports.specs.declared.outcome.Report.{Report}

-- rows of words by a chooser that goes on
abbrev pub LeavesOn : {C : Type 0} → (C → ℕ → Bool → C → Type 0) → C → List (Option Words) → List (Option (List ℕ)) → Type 0
LeavesOn {C} picks before words left = (after : C) × InTurn (LeavesOption picks) words left before after

-- The outline is saved with the label areas after a power cut, and with contents that are copied and patched. `leaves` says what the label areas'
-- words may be after it.
pub record SavesLeft (leaves : List (Option Words) → List (Option (List ℕ)) → Type 0) (report : Report) (areas : List Area) (rest : OutlineRest) (patch : List BytePatch) (answer : Answer) : Type 0 where
  pub is : answer.report ≡ report
  pub left : OutlineLeft
  pub saves : answer.saved ≡ Some (Patched left patch)
  pub areas_left : AreLeft areas left.labels
  pub chosen : leaves (map words_of areas) left.labels
  pub nfit : left.nfit ≡ rest.nfit_bytes
  pub sizes : left.sizes ≡ rest.sizes
  pub bad : left.bad ≡ rest.bad
