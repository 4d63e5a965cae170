use Rattle.std.proofs.Common.{ℕ, drop, eqb}
use Rattle.label_set.specs.Rules.{count_on, modules_of}
use Rattle.label_set.proofs.Lesser.{IsLeastOf}
use Rattle.label_set.proofs.least.least_missing.Given as goal

abbrev pub invariant-loop-position : goal.invariant-loop-position
invariant-loop-position l =
    IsLeastOf (λ (n : ℕ). n) (λ (n : ℕ). eqb (count_on l.labels n) 0) l.least (drop l.position (modules_of l.set)) (modules_of l.set)
