use Rattle.std.proofs.Common.{◌≡◌, ◌++◌, drop, map}
use Rattle.std.specs.List.{flat_map, enumerate_from}
use Rattle.namespace_map.specs.Namespaces.{placed_on}
use Rattle.namespace_areas.specs.Areas.{shown_in, labels_of}
use Rattle.namespace_areas.proofs.gather.gathered.Given as goal

abbrev pub invariant-loop-module : goal.invariant-loop-module
invariant-loop-module l =
    l.placed.items ++ flat_map placed_on (enumerate_from l.«module» (map shown_in (drop l.«module» l.areas))) ≡ labels_of l.areas
