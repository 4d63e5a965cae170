use Rattle.std.proofs.Common.{ℕ, All}
use Rattle.lane_pool.specs.Sets.{IsReady}
use Rattle.pool_tests.proofs.tests.empty_sets.Given as goal

abbrev pub invariant-loop-number : goal.invariant-loop-number
invariant-loop-number l = (n : ℕ) → All (IsReady n) l.sets.items
