use Rattle.lane_core.proofs.Laws.{each_is_named}
use Rattle.lane_core.proofs.law.each_block_is_named.Goals as goal

pub returns : goal.returns
returns c = each_is_named
