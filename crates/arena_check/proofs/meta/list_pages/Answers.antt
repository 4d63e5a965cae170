use Rattle.std.proofs.Common.{refl, sym, arith, ◌*◌}
use Rattle.arena_check.proofs.BadRuns.{meta_none, meta_start, pages_on}
use Rattle.arena_check.proofs.meta.list_pages.Goals as goal

pub returns-then-not-any_bad : goal.returns-then-not-any_bad
returns-then-not-any_bad g c = meta_none (g.B.BadWords.bad c.args.bad.now) c.args.first (512 * c.args.pages) c.args.findings.now (sym c.if-not-any_bad.ensures)

pub loop-page-init : goal.loop-page-init
loop-page-init g c = meta_start (g.B.BadWords.bad c.args.bad.now) c.args.first (512 * 0) c.args.findings.now refl

pub loop-page-preserved : goal.loop-page-preserved
loop-page-preserved g c =
    pages_on (g.B.BadWords.bad c.args.bad.now) c.args.first (512 * c.loop-page.page) 512 _ _ c.args.findings.now _ _ refl (omega arith) c.loop-page.invariant c.in_ok-list_words.ensures
