-- A set that is saved as it was loaded: this project's rules.
use Rattle.std.specs.Prelude.{◌≡◌, ℕ, List, map, Option, Some}
use Rattle.std.specs.Option.{option_map}
use Rattle.cut_words.specs.Words.{Words}
use Rattle.image_set.specs.declared.changing.OutlineLeft.{OutlineLeft}
use Rattle.image_set.specs.declared.changing.OutlineRest.{OutlineRest}
use Rattle.shell_changes.specs.declared.answer.Answer.{Answer}
use Rattle.shell_changes.specs.declared.answer.Left.TheVariants.{Copied}
use Rattle.shell_reports.specs.declared.status.Ending.TheVariants as ending

-- An answer prints this text, and saves a set of which these are the words of the label areas, and whose contents are copied.
pub record PrintsCopied (text : List ℕ) (rest : OutlineRest) (labels : List (Option Words)) (answer : Answer) : Type 0 where
  pub ends : answer.report.ending ≡ ending.Done
  pub says : answer.report.text.items ≡ text
  pub left : OutlineLeft
  pub saves : answer.saved ≡ Some (Copied left)
  pub nfit : left.nfit ≡ rest.nfit_bytes
  pub kept : left.labels ≡ map (option_map (λ w. w.kept)) labels
  pub sizes : left.sizes ≡ rest.sizes
  pub bad : left.bad ≡ rest.bad
