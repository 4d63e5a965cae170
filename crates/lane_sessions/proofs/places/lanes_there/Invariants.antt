use Rattle.std.proofs.Common.{◌≡◌}
use Rattle.lane_sessions.specs.Ending.{there}
use Rattle.lane_sessions.proofs.places.lanes_there.Given as goal

abbrev pub invariant-loop-end : goal.invariant-loop-end
invariant-loop-end l = l.lanes.items ≡ there l.yielded
