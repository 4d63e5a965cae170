use Rattle.std.proofs.Common.{◌≡◌, List, map, take}
use Rattle.nfit_reader.specs.declared.structures.Structure.{Structure}
use Rattle.nfit_reader.specs.Table.{mapping_of}
use Rattle.nfit_reader.specs.Names.{IsNamed, IsNumbered}
use Rattle.nfit_reader.proofs.regions.mappings_of.Given as goal

abbrev pub invariant-loop-link : goal.invariant-loop-link
invariant-loop-link l = (structures : List Structure) → IsNamed l.names structures → IsNumbered l.numbers structures →
    l.mappings ≡ map (mapping_of structures) (take l.link-index l.group)
