use Rattle.lane_pool.specs.Pools.{pool_now}
use Rattle.lane_pool.proofs.Inside.{asked_on}
use Rattle.lane_pool.proofs.pool.Pool.is_on.Goals as goal

pub returns-clause-own : goal.returns-clause-own
returns-clause-own c =
    let s = c.self.inside in
    asked_on s.total (pool_now s.first.value.items s.sets.items s.holders.items s.off) c.args.self.now c.args.q c.self.view_is c.self.invariant c.requires.on
