use Rattle.std.proofs.Common.{◌≡◌, ◌++◌, List, vec_len}
use Rattle.std.specs.List.{filter_map}
use Rattle.nfit_reader.specs.declared.structures.Structure.{Structure}
use Rattle.nfit_reader.specs.Names.{IsNamed}
use Rattle.nfit_reader.specs.Table.{name_of, twice_in}
use Rattle.nfit_reader.proofs.names.named.Given as goal

abbrev pub invariant-loop-structure : goal.invariant-loop-structure
invariant-loop-structure l = (rest : List Structure) × (l.initial.left.items ≡ l.left.items ++ rest) × IsNamed l.names rest × (l.twice ≡ twice_in (filter_map name_of rest))

abbrev pub decreases-loop-structure : goal.decreases-loop-structure
decreases-loop-structure l = vec_len l.left
