use Rattle.lane_core.proofs.Laws.{data_keep}
use Rattle.lane_core.proofs.law.data_keep_keeps_the_invariant.Goals as goal

pub returns : goal.returns
returns c = data_keep
