-- Commands that save an image set.
use Rattle.std.specs.Prelude.{◌≡◌, ℕ, List, Option, Some, None}
use Rattle.nvd_media.specs.Images.{Images, IsSameSet, Becomes}
use Rattle.shell_reports.specs.declared.status.Ending.{Ending}
use Rattle.shell_reports.specs.declared.outcome.Report.{Report}
use Rattle.shell_reports.specs.Outcome.{Outcome}

-- a command with this ending, this text and this saved set
pub record IsSaving (ending : Ending) (text : List ℕ) (set : Images) (outcome : Outcome) : Type 0 where
  pub ends : outcome.ending ≡ ending
  pub says : outcome.text ≡ text
  pub saved : Images
  pub saves : outcome.saved ≡ Some saved
  pub same : IsSameSet saved set

-- the outcome of a report, which saves nothing
abbrev pub outcome_of : Report → Outcome
outcome_of report = record { ending = report.ending; text = report.text.items; saved = None }

-- the sink has the set that an outcome saves, and is untouched if it saves none
abbrev pub Saves : Option Images → Option Images → Option Images → Type 0
Saves None made made' = made' ≡ made
Saves (Some set) made made' = Becomes made made' (λ _ now. IsSameSet now set)
