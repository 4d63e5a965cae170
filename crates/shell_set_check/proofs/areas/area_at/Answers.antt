use Rattle.std.proofs.Common.{[], ◌∙◌}
use Rattle.shell_reports.proofs.More.{if_more}
use Rattle.shell_set_check.proofs.Said.{area_there}
use Rattle.shell_set_check.proofs.areas.area_at.Goals as goal

pub returns-clause-bytes : goal.returns-clause-bytes
returns-clause-bytes c =
    if_more _ _ c.area.result (λ found is. is [] ∙ area_there c.args.outline.now c.args.«module» c.args._area.now c.requires.there c.requires.area) c.area.ensures.area
