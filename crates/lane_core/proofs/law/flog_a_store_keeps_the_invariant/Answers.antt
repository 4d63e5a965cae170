use Rattle.lane_core.proofs.Laws.{flog_a_store}
use Rattle.lane_core.proofs.law.flog_a_store_keeps_the_invariant.Goals as goal

pub returns : goal.returns
returns c = flog_a_store
