use Rattle.lane_core.proofs.Laws.{flog_b_keep}
use Rattle.lane_core.proofs.law.flog_b_keep_keeps_the_invariant.Goals as goal

pub returns : goal.returns
returns c = flog_b_keep
