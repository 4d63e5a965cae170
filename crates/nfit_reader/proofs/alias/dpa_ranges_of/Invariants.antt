use Rattle.std.proofs.Common.{◌≡◌, List, take}
use Rattle.std.specs.List.{filter_map}
use Rattle.nfit_reader.specs.declared.structures.Structure.{Structure}
use Rattle.nfit_reader.specs.Table.{dpa_range_of, regions_of}
use Rattle.nfit_reader.specs.Names.{IsNumbered}
use Rattle.nfit_reader.proofs.alias.dpa_ranges_of.Given as goal

abbrev pub invariant-loop-link : goal.invariant-loop-link
invariant-loop-link l = (structures : List Structure) → IsNumbered l.numbers structures → l.regions ≡ regions_of structures →
    l.dpa_ranges ≡ filter_map (dpa_range_of structures) (take l.link-index l.links)
