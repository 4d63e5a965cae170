use Rattle.std.proofs.Common.{◌≡◌, ◌++◌, map}
use Rattle.lane_table.specs.declared.lanes.LaneEnd.TheVariants.{Idle}
use Rattle.lane_sessions.proofs.arenas.idle_ends.Given as goal

abbrev pub invariant-loop-lane : goal.invariant-loop-lane
invariant-loop-lane l = record {
  rest : l.yielded ++ l.lane-iterator.rest.items ≡ l.fn.lanes.items;
  ends : l.ends.items ≡ map (λ x. Idle x) l.yielded;
}
