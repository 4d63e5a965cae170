use Rattle.std.proofs.Common.{◌≡◌, drop}
use Rattle.std.specs.Prelude.{find}
use Rattle.std.specs.List.{enumerate_from}
use Rattle.namespace_map.specs.Namespaces.{holds_label, region_of}
use Rattle.namespace_areas.proofs.group_labels.region_of.Given as goal

abbrev pub invariant-loop-number : goal.invariant-loop-number
invariant-loop-number l = find (λ r. holds_label l.label r.1) (enumerate_from l.number (drop l.number l.sets)) ≡ region_of l.sets l.label
