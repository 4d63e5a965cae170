-- What an answer comes to, with the contents that are copied as its set is saved.
use Rattle.std.specs.Prelude.{◌≡◌, ℕ, List, [], Option, IfSome}
use Rattle.std.specs.Option.{option_map}
use Rattle.nvd_media.specs.Images.{Images}
use Rattle.shell_reports.specs.Outcome.{Outcome}
use Rattle.shell_changes.specs.declared.answer.Answer.{Answer}
use Rattle.shell_changes.specs.Saved.{AreSaved, HasSize, objects_saved}

-- an answer without where it lies in memory, with contents like these
abbrev pub outcome_with : Answer → List (List ℕ) → Outcome
outcome_with answer contents = record { ending = answer.report.ending; text = answer.report.text.items; saved = option_map (objects_saved contents) answer.saved }

-- one that copies no contents
abbrev pub whole_outcome : Answer → Outcome
whole_outcome answer = outcome_with answer []

-- the contents of the set that is saved, if one is, have these sizes
abbrev pub HasSizes : List ℕ → Answer → Type 0
HasSizes sizes answer = IfSome answer.saved (HasSize sizes)

-- an answer comes to this outcome, as far as the source tells the contents that are copied
pub record ComesFrom (held : Option Images) (answer : Answer) (outcome : Outcome) : Type 0 where
  pub ends : outcome.ending ≡ answer.report.ending
  pub says : outcome.text ≡ answer.report.text.items
  pub saves : AreSaved held answer.saved outcome.saved
