use Rattle.std.proofs.Common.{◌≡◌, ◌++◌, drop}
use Rattle.label_set.specs.Status.{present}
use Rattle.label_set.proofs.deciding.present.Given as goal

abbrev pub invariant-loop-finding : goal.invariant-loop-finding
invariant-loop-finding l = l.found.items ++ present (drop l.finding-index l.findings) ≡ present l.findings
