use Rattle.std.proofs.Common.{◌≡◌, ℕ, ◌<◌, None}
use Rattle.lane_pool.specs.Pools.{set_at}
use Rattle.lane_pool.proofs.pool.first_home.Given as goal

abbrev pub invariant-loop-i : goal.invariant-loop-i
invariant-loop-i l = record {
  before : (j : ℕ) → j < l.i → set_at l.sets j ≡ None;
}
