use Rattle.lane_pool.specs.Pools.{pool_now}
use Rattle.lane_pool.proofs.Inside.{handed_inside}
use Rattle.lane_pool.proofs.pool.Pool.hand_in.Goals as goal

pub invariant_of-self : goal.invariant_of-self
invariant_of-self c =
    let s = c.self.inside in
    handed_inside s.total (pool_now s.first.value.items s.sets.items s.holders.items s.off) c.args.self.now c.args.q c.index-holder.result.now c.self.view_is c.self.invariant c.index-holder.ensures
    c.args.off c.first_of-first.result c.stop_of.result c.first_of-first.ensures c.stop_of.ensures c.args.set c.in-Out.at c.in-Out.room c.requires c.in-Out.is
