use Rattle.std.proofs.Common.{[], ◌∷◌, ◌∙◌, get_or-set_other, arith}
use Rattle.turn_lock.specs.Passes.{lock_id}
use Rattle.pool_tests.proofs.Fresh.{both, may_stop_at}
use Rattle.pool_tests.proofs.tests.the_first_power_off_stays.Goals as goal

pub stop-requires-2-clause-may : goal.stop-requires-2-clause-may
stop-requires-2-clause-may g c =
    let p = c.in_ok-pool in
    let long = p.ensures.count in
    let ok = p.passes.ok.0 in
    may_stop_at c.in_ok-sets.sets.items (1 ∷ 1 ∷ []) 1 (both 1) (lock_id p.pool.turn) p.passes.items (omega (arith, long, ok)) p.ensures.passes 1 c.index_mut-2.result.now (omega (arith, long, ok))
    (c.index_mut-2.ensures.value ∙ get_or-set_other p.passes.items 0 1 c.stop.new.pass c.index_mut-2.result.now (λ e. absurd (omega (arith, e))))
