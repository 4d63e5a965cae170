use Rattle.std.proofs.Common.{◌≡◌, map}
use Rattle.lane_sessions.proofs.ending.lanes_of.Given as goal

abbrev pub invariant-loop-set : goal.invariant-loop-set
invariant-loop-set l = l.rows.items ≡ map (λ s. s.ends) l.yielded
