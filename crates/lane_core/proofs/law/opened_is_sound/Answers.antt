use Rattle.lane_core.proofs.Laws.{opened_is_sound}
use Rattle.lane_core.proofs.law.opened_is_sound.Goals as goal

pub returns : goal.returns
returns c = opened_is_sound
