use Rattle.std.proofs.Common.{◌∙◌, length}
use Rattle.image_set.specs.Outline.{contents_in}
use Rattle.shell_run.proofs.top.arenas_found.Goals as goal

pub returns-in-Ok-clause-comes : goal.returns-in-Ok-clause-comes
returns-in-Ok-clause-comes g c = λ source told. c.without_set.ensures.same (contents_in source (length c.args.outline.sizes)) ∙ c.in-Ok.ensures.told source told
