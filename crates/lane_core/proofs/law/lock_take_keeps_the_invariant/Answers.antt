use Rattle.lane_core.proofs.Laws.{lock_take}
use Rattle.lane_core.proofs.law.lock_take_keeps_the_invariant.Goals as goal

pub returns : goal.returns
returns c = lock_take
