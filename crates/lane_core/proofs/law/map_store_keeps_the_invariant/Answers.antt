use Rattle.lane_core.proofs.Laws.{map_store}
use Rattle.lane_core.proofs.law.map_store_keeps_the_invariant.Goals as goal

pub returns : goal.returns
returns c = map_store
