use Rattle.std.proofs.Common.{◌≡◌, ◌++◌, map, Some}
use Rattle.lane_pool.proofs.pool.at_home.Given as goal

abbrev pub invariant-loop-set : goal.invariant-loop-set
invariant-loop-set l = record {
  rest : l.yielded ++ l.set-iterator.rest.items ≡ l.fn.sets.items;
  home : l.home.items ≡ map (λ s. Some s) l.yielded;
}
