-- Commands by their values.
use Rattle.std.proofs.Common.{ℕ, List}
use Rattle.namespace_map.specs.declared.commands.Make.{Make}
use Rattle.namespace_map.specs.declared.commands.Named.{Named}
use Rattle.namespace_map.specs.declared.commands.CreateSpec.{CreateSpec}
use Rattle.namespace_map.specs.declared.commands.Command.{Command}
use Rattle.namespace_map.specs.declared.commands.Command.TheVariants.{Create}

abbrev pub spec_with : List ℕ → Named → ℕ → ℕ → Make → CreateSpec
spec_with uuid name region size made = record { uuid = uuid; name = name; region = region; size = size; make = made }

abbrev pub create_with : List ℕ → Named → ℕ → ℕ → Make → Command
create_with uuid name region size made = Create (spec_with uuid name region size made)
