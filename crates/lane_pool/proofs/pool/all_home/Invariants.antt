use Rattle.std.proofs.Common.{◌≡◌, ◌++◌, map, Some}
use Rattle.lane_pool.proofs.pool.all_home.Given as goal

abbrev pub invariant-loop-slot : goal.invariant-loop-slot
invariant-loop-slot l = record {
  rest : l.yielded ++ l.slot-iterator.rest.items ≡ l.fn.home.items;
  sets : map (λ s. Some s) l.sets.items ≡ l.yielded;
}
