use Rattle.lane_core.specs.Machines.{IsSomeCore}
use Rattle.lane_tests.proofs.core_tests.walk.Given as goal

abbrev pub invariant-loop : goal.invariant-loop
invariant-loop l = IsSomeCore l.core
