use Rattle.std.proofs.Common.{◌∙◌}
use Rattle.image_set.specs.Outline.{image_set_with}
use Rattle.shell_run.proofs.top.table_found.Goals as goal

pub returns-clause-comes : goal.returns-clause-comes
unfolding image_set_with
returns-clause-comes c = λ contents. c.without_set.ensures.same contents ∙ c.in_ok-report.ensures
