use Rattle.lane_core.proofs.Holding.{core_is_held}
use Rattle.lane_core.proofs.law.a_core_is_what_it_holds.Goals as goal

pub returns : goal.returns
returns c = core_is_held
