use Rattle.lane_core.proofs.Flying.{steps_are_paid}
use Rattle.lane_core.proofs.law.steps_are_paid.Goals as goal

pub returns : goal.returns
returns c = steps_are_paid
