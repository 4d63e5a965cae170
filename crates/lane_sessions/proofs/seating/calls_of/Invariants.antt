use Rattle.std.proofs.Common.{◌≡◌, take}
use Rattle.lane_sessions.specs.Making.{calls_in}
use Rattle.lane_sessions.proofs.seating.calls_of.Given as goal

abbrev pub invariant-loop-session : goal.invariant-loop-session
invariant-loop-session l = l.calls.items ≡ calls_in (take l.session-index l.limits)
