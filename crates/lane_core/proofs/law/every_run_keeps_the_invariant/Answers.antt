use Rattle.lane_core.proofs.Laws.{every_run}
use Rattle.lane_core.proofs.law.every_run_keeps_the_invariant.Goals as goal

pub returns : goal.returns
returns c = every_run
