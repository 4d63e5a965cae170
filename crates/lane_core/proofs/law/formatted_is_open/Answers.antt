use Rattle.lane_core.proofs.Laws.{formatted_is_open}
use Rattle.lane_core.proofs.law.formatted_is_open.Goals as goal

pub returns : goal.returns
returns c = formatted_is_open
