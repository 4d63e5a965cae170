use Rattle.lane_core.proofs.Parting.{own_part_is_known}
use Rattle.lane_core.proofs.law.own_part_is_known.Goals as goal

pub returns : goal.returns
returns c = own_part_is_known
