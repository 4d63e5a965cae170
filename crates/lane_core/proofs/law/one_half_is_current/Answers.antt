use Rattle.lane_core.proofs.Laws.{one_is_current}
use Rattle.lane_core.proofs.law.one_half_is_current.Goals as goal

pub returns : goal.returns
returns c = one_is_current
