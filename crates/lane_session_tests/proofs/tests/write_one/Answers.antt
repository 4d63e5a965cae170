use Rattle.std.proofs.Common.{◌+◌, arith}
use Rattle.lane_session_tests.proofs.Going.{fewer}
use Rattle.lane_session_tests.proofs.tests.write_one.Goals as goal

pub put-requires-clause-may : goal.put-requires-clause-may
put-requires-clause-may g c = fewer c.args.sectors.now c.args.session.now 1 2 (omega arith) c.requires.may

pub returns-in-Some-clause-done : goal.returns-in-Some-clause-done
returns-in-Some-clause-done g c = λ _ n may. c.get.ensures.done c.in-Some.found c.in-Some.is n (c.put.ensures.done c.if-not-put.false (n + 1) (fewer c.args.sectors.now c.args.session.now (n + 1 + 1) (n + 2) (omega arith) may))
