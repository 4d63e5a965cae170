use Rattle.std.proofs.Common.{refl, ◌∙◌, ltb, arith, get_or}
use Rattle.std.proofs.lemmas.Bool.{lt-ltb, le-ltb}
use Rattle.arena_check.specs.declared.finding.Finding.TheVariants.{Twice}
use Rattle.arena_check.proofs.Picked.{listed_hit, listed_past}
use Rattle.arena_check.proofs.blocks.list_twice.Goals as goal
use Rattle.arena_check.proofs.blocks.list_twice.Goals.{then-times-gt1+in_ok-push, else-times-gt1}

pub loop-block-preserved : goal.loop-block-preserved
loop-block-preserved c = elim c.if-times-gt1.branch [
  | then-times-gt1+in_ok-push w ↦
      listed_hit Twice (λ b. ltb 1 (get_or c.args.counts.now b 0)) 0 c.loop-block.block c.loop-block.block _ c.args.findings.now _ _ (omega arith) refl
      (lt-ltb 1 (get_or c.args.counts.now c.loop-block.block 0) (omega arith)) c.loop-block.invariant (w.findings-is ∙ w.in_ok-push.ensures.ok)
  | else-times-gt1 w ↦
      listed_past Twice (λ b. ltb 1 (get_or c.args.counts.now b 0)) 0 c.loop-block.block c.loop-block.block _ c.args.findings.now _ _ (omega arith) refl
      (le-ltb 1 (get_or c.args.counts.now c.loop-block.block 0) (omega arith)) c.loop-block.invariant w.findings-is
]
