use Rattle.std.proofs.Common.{arith}
use Rattle.session_script.proofs.Generated.{sessions_kept}
use Rattle.session_script.proofs.load.load_sessions.Goals as goal

pub loop-q-preserved : goal.loop-q-preserved
loop-q-preserved c = record {
  bound = let less = c.loop-q-test.true in omega arith;
  same =
      sessions_kept c.args.uuid.now c.args.count c.args.spread.share c.args.spread.sessions c.loop-q.q c.loop-q.last c.in_ok-session.next c.loop-q.made
      c.push.new.self c.in_ok-session.session _ c.loop-q-test.true c.in_ok-session.ensures.number c.in_ok-session.ensures.session c.in_ok-push.ensures.ok
      c.loop-q.invariant.same;
}
