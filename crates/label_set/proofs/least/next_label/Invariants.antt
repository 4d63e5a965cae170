use Rattle.std.proofs.Common.{drop, leb}
use Rattle.label_set.specs.declared.placed.Placed.{Placed}
use Rattle.label_set.specs.Rules.{module_of}
use Rattle.label_set.proofs.Lesser.{IsLeastOf}
use Rattle.label_set.proofs.least.next_label.Given as goal

abbrev pub invariant-loop-placed : goal.invariant-loop-placed
invariant-loop-placed l = IsLeastOf module_of (λ (p : Placed). leb l.from p.«module») l.least (drop l.placed-index l.labels) l.labels
