use Rattle.pool_tests.proofs.Fresh.{ready_more}
use Rattle.pool_tests.proofs.tests.empty_sets.Goals as goal

pub loop-number-preserved : goal.loop-number-preserved
loop-number-preserved c = λ n. ready_more n _ _ _ c.in_ok-push.ensures.items c.new.ensures.items (c.loop-number.invariant n)
