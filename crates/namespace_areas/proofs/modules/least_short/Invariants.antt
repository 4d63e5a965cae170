use Rattle.std.proofs.Common.{ℕ, drop}
use Rattle.std.specs.Prelude.{nat_lt}
use Rattle.label_set.specs.Rules.{modules_of}
use Rattle.label_set.proofs.Lesser.{IsLeastOf}
use Rattle.namespace_areas.specs.Refusals.{area_summary_at}
use Rattle.namespace_areas.proofs.modules.least_short.Given as goal

abbrev pub invariant-loop-position : goal.invariant-loop-position
invariant-loop-position l = IsLeastOf (λ (n : ℕ). n) (λ (number : ℕ). nat_lt (area_summary_at l.areas number).free l.wanted) l.least (drop l.position (modules_of l.set)) (modules_of l.set)
