use Rattle.std.proofs.Common.{[], ◌∷◌, arith}
use Rattle.turn_lock.specs.Passes.{callers_of, lock_id}
use Rattle.pool_tests.proofs.Fresh.{all_outside, are_of, both, each, none_out}
use Rattle.pool_tests.proofs.tests.one_set_goes_from_thread_to_thread.Goals as goal

pub run_all-passes-requires-clause-may : goal.run_all-passes-requires-clause-may
run_all-passes-requires-clause-may g c κs =
    let p = c.in_ok-pool in are_of c.in_ok-sets.sets.items (20000 ∷ 20000 ∷ []) 20000 (both 20000) (lock_id p.pool.turn) p.passes.items (omega (arith, p.ensures.count, p.passes.ok.0)) p.ensures.passes

pub close-requires-clause-passes : goal.close-requires-clause-passes
close-requires-clause-passes g c = all_outside (lock_id c.in_ok-pool.pool.turn) c.run_all-passes.result.items c.run_all-passes.ensures.place

pub close-requires-clause-every : goal.close-requires-clause-every
close-requires-clause-every g c =
    let p = c.in_ok-pool in
    each (lock_id p.pool.turn) c.run_all-passes.result.items c.run_all-passes.ensures.place (callers_of p.pool.turn) (omega (arith, c.run_all-passes.ensures.count, p.ensures.count, p.ensures.lock.0, p.passes.ok.0))

pub close-requires-clause-none : goal.close-requires-clause-none
close-requires-clause-none g c = none_out (lock_id c.in_ok-pool.pool.turn) c.run_all-passes.result.items c.run_all-passes.ensures.place
