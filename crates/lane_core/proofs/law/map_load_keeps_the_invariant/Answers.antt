use Rattle.lane_core.proofs.Laws.{map_load}
use Rattle.lane_core.proofs.law.map_load_keeps_the_invariant.Goals as goal

pub returns : goal.returns
returns c = map_load
