use Rattle.std.proofs.Common.{◌≡◌, ◌++◌}
use Rattle.lane_sessions.specs.Making.{AreLaid}
use Rattle.lane_sessions.proofs.arenas.lay.Given as goal

abbrev pub invariant-loop-state : goal.invariant-loop-state
invariant-loop-state l = record {
  rest : l.yielded ++ l.state-iterator.rest.items ≡ l.fn.states.items;
  laid : AreLaid l.plan l.yielded l.laid;
}
