use Rattle.lane_core.proofs.Laws.{lock_free}
use Rattle.lane_core.proofs.law.lock_free_keeps_the_invariant.Goals as goal

pub returns : goal.returns
returns c = lock_free
