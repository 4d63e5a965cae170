use Rattle.std.proofs.Common.{◌≡◌, ◌++◌, drop, Some}
use Rattle.std.specs.List.{filter_map, enumerate_from}
use Rattle.namespace_map.specs.Namespaces.{placed_in, placed_on}
use Rattle.namespace_areas.proofs.gather.add_labels.Given as goal

abbrev pub invariant-loop-slot : goal.invariant-loop-slot
invariant-loop-slot l =
    l.placed.items ++ filter_map (placed_in l.«module») (enumerate_from l.slot (drop l.slot l.labels)) ≡ l.fn.placed.items ++ placed_on (l.«module», Some l.labels)
