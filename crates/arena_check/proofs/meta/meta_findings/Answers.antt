use Rattle.std.proofs.Common.{arith}
use Rattle.arena_check.proofs.BadRuns.{both_runs}
use Rattle.arena_check.proofs.meta.meta_findings.Goals as goal

pub returns : goal.returns
returns g c =
    both_runs (g.B.BadWords.bad c.args.bad.now) c.args.at _ c.args.layout.now _ _ _
    (omega (arith, c.requires.layout)) c.new-findings.ensures c.in_ok-list_words.ensures c.in_ok-list_pages.ensures
