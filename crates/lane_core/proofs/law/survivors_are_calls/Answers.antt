use Rattle.lane_core.proofs.Flying.{survivors_are_calls}
use Rattle.lane_core.proofs.law.survivors_are_calls.Goals as goal

pub returns : goal.returns
returns c = survivors_are_calls
