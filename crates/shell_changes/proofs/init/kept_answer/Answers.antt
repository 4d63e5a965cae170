use Rattle.std.proofs.Common.{◌∙◌}
use Rattle.shell_changes.proofs.init.kept_answer.Goals as goal

pub returns-clause-text : goal.returns-clause-text
returns-clause-text c = λ contents. c.without_set.ensures.same contents ∙ c.in_ok-report.ensures.text
