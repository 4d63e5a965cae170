use Rattle.std.proofs.Common.{◌*◌, ap, ◌∙◌, ℕ, sym, arith}
use Rattle.label_area.proofs.Filled.{filled}
use Rattle.label_repair.proofs.write.fill_words.Goals as goal

pub returns : goal.returns
returns c =
    filled c.loop-at.into c.args.bytes.now (c.requires ∙ ap (λ (n : ℕ). 8 * n) (sym c.loop-at.auto.into))
    (λ k lt. c.loop-at.invariant k (omega (arith, lt, c.loop-at.auto.into, c.loop-at-test.false)))
