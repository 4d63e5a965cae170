use Rattle.arena_layout.proofs.Planned.{planned_is}
use Rattle.arena_layout.proofs.planning.plan.Goals as goal

pub returns-clause-layout : goal.returns-clause-layout
returns-clause-layout c = planned_is _ _ _ _ c.plan_checked.ensures
