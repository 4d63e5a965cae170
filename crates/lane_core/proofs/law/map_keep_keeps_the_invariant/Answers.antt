use Rattle.lane_core.proofs.Laws.{map_keep}
use Rattle.lane_core.proofs.law.map_keep_keeps_the_invariant.Goals as goal

pub returns : goal.returns
returns c = map_keep
