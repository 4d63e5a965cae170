use Rattle.std.proofs.Common.{refl, ◌∙◌, eqb, arith, get_or}
use Rattle.std.proofs.lemmas.Bool.{eq-eqb, ne_eqb}
use Rattle.arena_check.specs.declared.finding.Finding.TheVariants.{Missing}
use Rattle.arena_check.proofs.Picked.{listed_hit, listed_past}
use Rattle.arena_check.proofs.blocks.list_missing.Goals as goal
use Rattle.arena_check.proofs.blocks.list_missing.Goals.{then-times-eq0+in_ok-push, else-times-eq0}

pub loop-block-preserved : goal.loop-block-preserved
loop-block-preserved c = elim c.if-times-eq0.branch [
  | then-times-eq0+in_ok-push w ↦
      listed_hit Missing (λ b. eqb (get_or c.args.counts.now b 0) 0) 0 c.loop-block.block c.loop-block.block _ c.args.findings.now _ _ (omega arith) refl
      (eq-eqb (get_or c.args.counts.now c.loop-block.block 0) 0 (omega arith)) c.loop-block.invariant (w.findings-is ∙ w.in_ok-push.ensures.ok)
  | else-times-eq0 w ↦
      listed_past Missing (λ b. eqb (get_or c.args.counts.now b 0) 0) 0 c.loop-block.block c.loop-block.block _ c.args.findings.now _ _ (omega arith) refl
      (ne_eqb (get_or c.args.counts.now c.loop-block.block 0) 0 (λ z. w.if-times-eq0.false (c.times.ensures ∙ z))) c.loop-block.invariant w.findings-is
]
