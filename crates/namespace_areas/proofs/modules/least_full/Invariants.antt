use Rattle.std.proofs.Common.{ℕ, drop, map}
use Rattle.std.specs.Prelude.{nat_lt}
use Rattle.label_set.specs.Rules.{module_of}
use Rattle.label_set.proofs.Lesser.{IsLeastOf}
use Rattle.namespace_areas.specs.Refusals.{area_summary_at}
use Rattle.namespace_areas.proofs.modules.least_full.Given as goal

abbrev pub invariant-loop-placed : goal.invariant-loop-placed
invariant-loop-placed l = IsLeastOf (λ (n : ℕ). n) (λ (number : ℕ). nat_lt (area_summary_at l.areas number).free 1) l.least (map module_of (drop l.placed-index l.labels)) (map module_of l.labels)
