use Rattle.std.proofs.Common.{◌≡◌, None}
use Rattle.turn_lock.specs.Passes.{IsSamePass, out_of}
use Rattle.lane_pool.specs.Parts.{HasPart}
use Rattle.pool_tests.specs.Callers.{HasPlace}
use Rattle.pool_tests.proofs.tests.wait_until_off.Given as goal

abbrev pub invariant-loop : goal.invariant-loop
invariant-loop g l = record {
  pass : IsSamePass l.initial.pass l.pass;
  outside : out_of l.pass ≡ None;
  place : HasPart HasPlace l.pass;
}
