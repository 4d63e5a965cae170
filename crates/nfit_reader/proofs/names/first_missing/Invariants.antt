use Rattle.std.proofs.Common.{◌≡◌, List, map, drop}
use Rattle.nvd_words.specs.Checks.{first_fault}
use Rattle.nfit_reader.specs.declared.structures.Structure.{Structure}
use Rattle.nfit_reader.specs.Table.{missing_of}
use Rattle.nfit_reader.specs.Names.{IsNamed}
use Rattle.nfit_reader.proofs.names.first_missing.Given as goal

abbrev pub invariant-loop-link : goal.invariant-loop-link
invariant-loop-link l = (structures : List Structure) → IsNamed l.names structures →
    first_fault (map (missing_of structures) (drop l.link-index l.links)) ≡ first_fault (map (missing_of structures) l.links)
