use Rattle.std.proofs.Common.{◌∙◌, sym}
use Rattle.arena_layout.specs.Plan.{plan_checks, plan_of}
use Rattle.namespace_ops.proofs.Layouts.{checked_ok, planned_as}
use Rattle.namespace_ops.proofs.formatter.planned_layout.Goals as goal

pub returns : goal.returns
returns c =
    planned_as c.args.size c.args.sector c.args.lanes c.in-Ok.layout (sym c.in-Ok.is ∙ c.plan.ensures.plan)
    (checked_ok (plan_of c.args.size c.args.sector c.args.lanes) (plan_checks c.args.size c.args.sector c.args.lanes) c.requires)
