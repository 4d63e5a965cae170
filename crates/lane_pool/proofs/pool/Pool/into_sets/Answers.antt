use Rattle.lane_pool.specs.Pools.{pool_now}
use Rattle.lane_pool.proofs.Inside.{all_at_home}
use Rattle.lane_pool.proofs.pool.Pool.into_sets.Goals as goal

pub all_home-requires : goal.all_home-requires
all_home-requires c =
    let s = c.self.inside in
    all_at_home s.total (pool_now s.first.value.items s.sets.items s.holders.items s.off) c.args.self c.self.view_is c.self.invariant c.requires
