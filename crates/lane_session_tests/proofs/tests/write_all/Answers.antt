use Rattle.std.proofs.Common.{◌-◌, ◌*◌, arith}
use Rattle.lane_session_tests.proofs.Going.{fewer}
use Rattle.lane_session_tests.proofs.tests.write_all.Goals as goal

pub write_one-requires-clause-may : goal.write_one-requires-clause-may
write_one-requires-clause-may g c = fewer c.args.sectors.now c.loop-n.session 2 (601 - 2 * c.loop-n.n) (let a = c.loop-n-test.true in omega (arith, a)) c.loop-n.invariant.may
