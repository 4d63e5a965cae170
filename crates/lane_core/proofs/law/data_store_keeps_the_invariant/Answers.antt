use Rattle.lane_core.proofs.Laws.{data_store}
use Rattle.lane_core.proofs.law.data_store_keeps_the_invariant.Goals as goal

pub returns : goal.returns
returns c = data_store
