use Rattle.std.proofs.Common.{ap, ◌∙◌}
use Rattle.lane_pool.specs.Pools.{Now, pool_now}
use Rattle.lane_pool.proofs.Inside.{told_inside}
use Rattle.lane_pool.proofs.pool.Pool.tell.Goals as goal

pub invariant_of-self : goal.invariant_of-self
invariant_of-self c =
    let s = c.self.inside in
    told_inside s.total (pool_now s.first.value.items s.sets.items s.holders.items s.off) c.args.self.now c.args.q c.index-holder.result.now c.self.view_is c.self.invariant c.index-holder.ensures
    c.args.off c.requires.placed (ap (λ (v : Now). v.off) c.self.view_is ∙ c.requires.off)
