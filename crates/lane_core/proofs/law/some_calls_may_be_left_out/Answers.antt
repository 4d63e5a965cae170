use Rattle.lane_core.proofs.Past.{some_may_go}
use Rattle.lane_core.proofs.law.some_calls_may_be_left_out.Goals as goal

pub returns : goal.returns
returns c = some_may_go
