use Rattle.std.proofs.Common.{◌≡◌, drop}
use Rattle.lane_sessions.specs.Making.{set_count}
use Rattle.lane_sessions.proofs.arenas.count_sets.Given as goal

abbrev pub invariant-loop-state : goal.invariant-loop-state
invariant-loop-state l = set_count l.sets (drop l.state-index l.states) ≡ set_count l.fn.workers l.states
