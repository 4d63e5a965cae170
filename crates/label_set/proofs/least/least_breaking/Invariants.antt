use Rattle.std.proofs.Common.{drop}
use Rattle.label_set.specs.Rules.{module_of, breaks_of}
use Rattle.label_set.proofs.Lesser.{IsLeastOf}
use Rattle.label_set.proofs.least.least_breaking.Given as goal

abbrev pub invariant-loop-placed : goal.invariant-loop-placed
invariant-loop-placed l = IsLeastOf module_of (breaks_of l.rule l.set) l.least (drop l.placed-index l.labels) l.labels
