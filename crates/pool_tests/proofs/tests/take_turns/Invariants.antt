use Rattle.std.proofs.Common.{◌≡◌, ◌-◌, None}
use Rattle.turn_lock.specs.Passes.{IsSamePass, out_of}
use Rattle.lane_pool.specs.Parts.{HasPart}
use Rattle.pool_tests.specs.Callers.{HasTurns}
use Rattle.pool_tests.proofs.tests.take_turns.Given as goal

abbrev pub invariant-loop-turn : goal.invariant-loop-turn
invariant-loop-turn g l = record {
  pass : IsSamePass l.initial.pass l.pass;
  outside : out_of l.pass ≡ None;
  may : HasPart (HasTurns (l.turns - l._turn)) l.pass;
}
