use Rattle.std.proofs.Common.{◌≡◌, ◌++◌}
use Rattle.lane_sessions.specs.Making.{IsEndOf}
use Rattle.lane_sessions.specs.Rows.{Along}
use Rattle.lane_sessions.proofs.arenas.ready_ends.Given as goal

abbrev pub invariant-loop-lane : goal.invariant-loop-lane
invariant-loop-lane l = record {
  rest : l.yielded ++ l.lane-iterator.rest.items ≡ l.fn.lanes.items;
  ends : Along (IsEndOf l.calls) l.yielded l.ends.items;
}
