use Rattle.session_script.proofs.Generated.{lines_kept, number_kept}
use Rattle.session_script.proofs.load.add_calls.Goals as goal

pub loop-left-preserved : goal.loop-left-preserved
loop-left-preserved c = record {
  calls =
      lines_kept c.loop-left.left c.args.spread.share c.args.spread.sessions c.args.q c.loop-left.last c.next-last.result c.loop-left.calls c.push.new.self
      c.load_line.result _ c.loop-left-test.true c.next-last.ensures c.load_line.ensures c.in_ok-push.ensures.ok c.loop-left.invariant.calls;
  last = number_kept c.loop-left.left c.loop-left.last c.next-last.result _ c.loop-left-test.true c.next-last.ensures c.loop-left.invariant.last;
}
