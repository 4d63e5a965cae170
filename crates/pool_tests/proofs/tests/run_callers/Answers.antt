use Rattle.std.proofs.Common.{rules, subst, arith}
use denote.Exit as exit
use denote.Param.Send.{sendable, shr_sync}
use Rattle.turn_lock.specs.declared.pass.TurnPass.{TurnPass}
use Rattle.turn_lock.specs.Passes.{lock_id}
use Rattle.lane_pool.specs.contracts.pool.PoolParted.TheImpl.{ghosts}
use Rattle.lane_pool.specs.declared.pool.PoolPart.{PoolPart}
use Rattle.lane_pool.specs.Pools.{Now}
use Rattle.pool_tests.specs.Callers.{HasPlace, IsOf}
use Rattle.pool_tests.proofs.Sending.{closure_sync, lane_pool_sync, pass_send}
use Rattle.pool_tests.proofs.tests.run_callers.Goals as goal

pub for_each_mut-requires-send-T : goal.for_each_mut-requires-send-T
for_each_mut-requires-send-T g c κs within = search (pass_send, sendable)

pub for_each_mut-requires-sync-F : goal.for_each_mut-requires-sync-F
for_each_mut-requires-sync-F g c κs within = closure_sync _ exit.no _ _ _ (shr_sync _ _ _ c.type_bounds.sync-R) (shr_sync _ _ _ lane_pool_sync)

pub returns-clause-place : goal.returns-clause-place
returns-clause-place g c = λ q p lt.
    let e = (c.for_each_mut.ensures q p (omega (arith, lt, c.for_each_mut.auto.s))).1 in
    subst (λ (x : TurnPass Now PoolPart ghosts). IsOf (lock_id c.args.pool.now.turn) HasPlace q x) e.left (let call = e.call in search rules)
