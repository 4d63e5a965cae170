use Rattle.std.proofs.Common.{arith}
use Rattle.lane_session_tests.proofs.Going.{fewer}
use Rattle.lane_session_tests.proofs.tests.sessions_go_on_until_one_cuts_power.Goals as goal

pub get-requires-clause-may : goal.get-requires-clause-may
get-requires-clause-may g c = fewer _ _ 1 3 (omega arith) c.in_ok-sectors.ensures.third.1

pub get-requires-2-clause-may : goal.get-requires-2-clause-may
get-requires-2-clause-may g c = fewer _ _ 1 2 (omega arith) (c.get.ensures.done c.in-Some.found c.in-Some.is 2 c.in_ok-sectors.ensures.third.1)

pub get-requires-3-clause-may : goal.get-requires-3-clause-may
get-requires-3-clause-may g c = c.pause-2.ensures.more 1 (c.get-2.ensures.done c.in-Some-get.found c.in-Some-get.is 1 (c.get.ensures.done c.in-Some.found c.in-Some.is 2 c.in_ok-sectors.ensures.third.1))
