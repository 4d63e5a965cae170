use Rattle.std.proofs.Common.{◌≡◌, ◌≤◌, List, length, take}
use Rattle.std.specs.List.{filter_map}
use Rattle.nfit_reader.specs.declared.structures.Structure.{Structure}
use Rattle.nfit_reader.specs.Table.{links_of}
use Rattle.nfit_reader.specs.Names.{IsNamed, IsNumbered, region_where}
use Rattle.nfit_reader.proofs.regions.regions_of.Given as goal

abbrev pub invariant-loop-range : goal.invariant-loop-range
invariant-loop-range l = (length l.regions ≤ l.range-index) × ((structures : List Structure) → IsNamed l.names structures → IsNumbered l.numbers structures → l.links ≡ links_of structures →
    l.regions ≡ filter_map (region_where structures) (take l.range-index l.ranges))
