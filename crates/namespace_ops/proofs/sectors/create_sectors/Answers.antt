use Rattle.std.proofs.Common.{◌∙◌, sym}
use Rattle.namespace_areas.specs.Refusals.{shown}
use Rattle.namespace_ops.proofs.Findings.{planned_uncut}
use Rattle.namespace_ops.proofs.sectors.create_sectors.Goals as goal

pub returns-in-Err-clause-stopped : goal.returns-in-Err-clause-stopped
returns-in-Err-clause-stopped g c =
    c.requires.can.running ∙ sym (planned_uncut (shown c.args.store.now.sets c.args.store.now.areas) c.args.spec.now c.in-Err.refused (c.plan_create.ensures.refused c.in-Err.refused c.in-Err.is))
