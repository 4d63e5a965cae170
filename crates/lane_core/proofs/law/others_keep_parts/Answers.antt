use Rattle.lane_core.proofs.Parting.{others_keep_parts}
use Rattle.lane_core.proofs.law.others_keep_parts.Goals as goal

pub returns : goal.returns
returns c = others_keep_parts
