use Rattle.lane_core.proofs.Laws.{rtt_set}
use Rattle.lane_core.proofs.law.rtt_set_keeps_the_invariant.Goals as goal

pub returns : goal.returns
returns c = rtt_set
