use Rattle.sector_namespaces.proofs.Usable.{usable_sets}
use Rattle.sector_namespaces.proofs.law.loaded_sets_are_usable.Goals as goal

pub returns : goal.returns
returns c = usable_sets
