use Rattle.std.proofs.Common.{◌∙◌}
use Rattle.shell_run.proofs.top.labels_found.Goals as goal

pub returns-clause-comes : goal.returns-clause-comes
returns-clause-comes c = λ contents. c.without_set.ensures.same contents ∙ c.in_ok-report.ensures contents
