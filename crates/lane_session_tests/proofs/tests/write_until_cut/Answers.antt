use Rattle.std.proofs.Common.{◌-◌, arith}
use Rattle.lane_session_tests.proofs.Going.{fewer}
use Rattle.lane_session_tests.proofs.tests.write_until_cut.Goals as goal

pub put-requires-clause-may : goal.put-requires-clause-may
put-requires-clause-may g c = fewer c.args.sectors.now c.loop-n.session 1 (20 - c.loop-n.n) (let a = c.loop-n-test.true in omega (arith, a)) c.loop-n.invariant.may
