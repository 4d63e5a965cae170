use Rattle.std.proofs.Common.{◌≡◌, ◌<◌, ℕ, length, get_or}
use Rattle.lane_table.specs.Kits.{held_in}
use Rattle.lane_pool.specs.Sets.{lane_of}
use Rattle.lane_sessions.specs.Making.{IsPassOf}
use Rattle.lane_sessions.proofs.arenas.passes_of.Given as goal

abbrev pub invariant-loop : goal.invariant-loop
invariant-loop l = record {
  count : length l.passes.items ≡ l.counter;
  passes : (q : ℕ) (o : _) → q < length l.passes.items → IsPassOf q l.arena (get_or l.passes.items q o);
  lane : lane_of l.first.kit ≡ record (lane_of l.initial.first.kit) { made = l.counter };
  free : held_in l.first.kit ≡ held_in l.initial.first.kit;
}
