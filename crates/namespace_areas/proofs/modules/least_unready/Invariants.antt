use Rattle.std.proofs.Common.{ℕ, drop, not}
use Rattle.label_set.specs.Rules.{modules_of}
use Rattle.label_set.proofs.Lesser.{IsLeastOf}
use Rattle.namespace_areas.specs.Refusals.{area_summary_at}
use Rattle.namespace_areas.proofs.modules.least_unready.Given as goal

abbrev pub invariant-loop-position : goal.invariant-loop-position
invariant-loop-position l = IsLeastOf (λ (n : ℕ). n) (λ (number : ℕ). not (area_summary_at l.areas number).ready) l.least (drop l.position (modules_of l.set)) (modules_of l.set)
