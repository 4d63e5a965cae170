use Rattle.std.proofs.Common.{ap}
use Rattle.lane_pool.proofs.Fresh.{fresh_inside}
use Rattle.lane_pool.proofs.pool.Pool.of.Goals as goal

pub invariant_of-result : goal.invariant_of-result
invariant_of-result c =
    fresh_inside c.args.sets.items c.args.entries.now c.requires.ready c.in_ok-holders.total c.of-first.result.value.items c.in_ok-sets.sets.items c.in_ok-holders.holders.items
    c.in_ok-holders.ensures.total (ap (λ v. v.items) c.of-first.ensures) c.in_ok-sets.ensures c.in_ok-holders.ensures.holders
