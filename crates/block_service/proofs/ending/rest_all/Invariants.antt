use Rattle.std.proofs.Common.{◌≡◌, ◌++◌}
use Rattle.block_service.specs.Sessions.{AreRested}
use Rattle.block_service.proofs.ending.rest_all.Given as goal

abbrev pub invariant-loop-session : goal.invariant-loop-session
invariant-loop-session g l = record {
  rested : AreRested l.sectors l.yielded l.resting.items;
  rest : l.yielded ++ l.session-iterator.rest.items ≡ l.fn.sessions.items;
}
