use Rattle.std.proofs.Common.{◌≡◌, ◌+◌, ◌<◌, ℕ, eqb, sym, ◌∙◌, subst, arith, length, drop, get_or, Option}
use Rattle.std.proofs.lemmas.Bool.{eq-eqb, ne_eqb}
use Rattle.label_set.specs.Rules.{count_on, modules_of}
use Rattle.label_set.proofs.Lesser.{IsLeastOf, least_passes, least_fails}
use Rattle.label_set.proofs.Twice.{module_there, length_modules}
use Rattle.label_set.proofs.least.least_missing.Goals as goal
use Rattle.label_set.proofs.least.least_missing.Goals.{then-count_on-eq0, else-count_on-eq0}

pub loop-position-preserved : goal.loop-position-preserved
loop-position-preserved c =
    let there : c.module_at-module.result ≡ get_or (modules_of c.args.set.now) c.loop-position.position c.module_at-module.result =
    module_there c.args.set.now c.loop-position.position c.module_at-module.result (omega arith) c.module_at-module.ensures in
    let lt : c.loop-position.position < length (modules_of c.args.set.now) = omega (arith, length_modules c.args.set.now) in
    elim c.if-count_on-eq0.branch [
      | then-count_on-eq0 w ↦
          subst (λ (least : Option ℕ). IsLeastOf (λ (n : ℕ). n) (λ (n : ℕ). eqb (count_on c.args.labels.now n) 0) least
          (drop (c.loop-position.position + 1) (modules_of c.args.set.now)) (modules_of c.args.set.now))
          (sym (w.least-is ∙ w.lesser_number-least.ensures))
          (least_passes (λ (n : ℕ). n) (λ (n : ℕ). eqb (count_on c.args.labels.now n) 0) (modules_of c.args.set.now) (modules_of c.args.set.now)
          c.loop-position.position c.module_at-module.result c.loop-position.least lt there
          (eq-eqb (count_on c.args.labels.now c.module_at-module.result) 0 (omega (arith, c.count_on.ensures, w.if-count_on-eq0.true))) c.loop-position.invariant)
      | else-count_on-eq0 w ↦
          subst (λ (least : Option ℕ). IsLeastOf (λ (n : ℕ). n) (λ (n : ℕ). eqb (count_on c.args.labels.now n) 0) least
          (drop (c.loop-position.position + 1) (modules_of c.args.set.now)) (modules_of c.args.set.now))
          (sym w.least-is)
          (least_fails (λ (n : ℕ). n) (λ (n : ℕ). eqb (count_on c.args.labels.now n) 0) (modules_of c.args.set.now) (modules_of c.args.set.now)
          c.loop-position.position c.module_at-module.result c.loop-position.least lt there
          (ne_eqb (count_on c.args.labels.now c.module_at-module.result) 0 (λ z. omega (arith, c.count_on.ensures, w.if-count_on-eq0.false, z))) c.loop-position.invariant)
    ]
