use Rattle.std.proofs.Common.{sym, ◌∙◌, arith, ◌-◌}
use Rattle.arena_check.proofs.BadRuns.{meta_none, meta_start, meta_hit, meta_past}
use Rattle.arena_check.proofs.meta.list_words.Goals as goal
use Rattle.arena_check.proofs.meta.list_words.Goals.{then-is_bad+in_ok-push, else-is_bad}

pub returns-then-not-any_bad : goal.returns-then-not-any_bad
returns-then-not-any_bad g c = meta_none (g.B.BadWords.bad c.args.bad.now) c.args.first c.args.count c.args.findings.now (sym c.if-not-any_bad.ensures)

pub loop-word-init : goal.loop-word-init
loop-word-init g c = λ n e. meta_start (g.B.BadWords.bad c.args.bad.now) c.args.first n c.args.findings.now (omega (arith, e))

pub loop-word-preserved : goal.loop-word-preserved
loop-word-preserved g c = λ n e. elim c.if-is_bad.branch [
  | then-is_bad+in_ok-push w ↦
      meta_hit (g.B.BadWords.bad c.args.bad.now) c.args.first (c.loop-word.word - c.args.first) c.loop-word.word n c.args.findings.now _ _
      (omega arith) (omega (arith, e)) (sym c.is_bad.ensures ∙ w.if-is_bad.true) (c.loop-word.invariant (c.loop-word.word - c.args.first) (omega arith)) (w.findings-is ∙ w.in_ok-push.ensures.ok)
  | else-is_bad w ↦
      meta_past (g.B.BadWords.bad c.args.bad.now) c.args.first (c.loop-word.word - c.args.first) c.loop-word.word n c.args.findings.now _ _
      (omega arith) (omega (arith, e)) (sym c.is_bad.ensures ∙ w.if-is_bad.false) (c.loop-word.invariant (c.loop-word.word - c.args.first) (omega arith)) w.findings-is
]
