use Rattle.std.proofs.Common.{◌≡◌, ◌++◌, ◌<◌, ◌^◌, length, map}
use Rattle.lane_sessions.specs.Making.{AreNumbered}
use Rattle.lane_sessions.proofs.seating.sets_of.Given as goal

abbrev pub invariant-loop-ends : goal.invariant-loop-ends
invariant-loop-ends l = record {
  rest : l.yielded ++ l.ends-iterator.rest.items ≡ l.fn.rows.items;
  few : length l.fn.rows.items < 2 ^ 32;
  ends : map (λ s. s.ends) l.sets.items ≡ l.yielded;
  numbers : AreNumbered l.sets.items;
}
