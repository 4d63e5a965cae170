use Rattle.lane_core.proofs.Laws.{data_load}
use Rattle.lane_core.proofs.law.data_load_keeps_the_invariant.Goals as goal

pub returns : goal.returns
returns c = data_load
