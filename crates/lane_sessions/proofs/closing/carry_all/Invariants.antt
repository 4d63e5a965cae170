use Rattle.std.proofs.Common.{◌≡◌, ◌++◌}
use Rattle.lane_sessions.specs.Closing.{Carries, carried}
use Rattle.lane_sessions.proofs.closing.carry_all.Given as goal

abbrev pub invariant-loop-pass : goal.invariant-loop-pass
invariant-loop-pass l = record {
  rest : l.yielded ++ l.pass-iterator.rest.items ≡ l.fn.passes.items;
  carries : Carries (carried l.yielded) l.fn.end l.end;
}
