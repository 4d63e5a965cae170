use Rattle.std.proofs.Common.{◌≡◌, map, sum, take}
use Rattle.lane_pool.specs.Pools.{new_holder}
use Rattle.lane_pool.proofs.pool.callers.Given as goal

abbrev pub invariant-loop-left : goal.invariant-loop-left
invariant-loop-left l = record {
  holders : l.holders.items ≡ map new_holder (take l.left-index l.entries);
  total : l.total ≡ sum (take l.left-index l.entries);
}
