use Rattle.namespace_laws.proofs.Disjoint as creating
use Rattle.namespace_laws.proofs.First as changing
use Rattle.namespace_laws.proofs.agreeing.commands_keep_entries_apart.Goals as goal

pub returns-clause-create : goal.returns-clause-create
returns-clause-create c = λ sets areas spec. creating.create_apart sets areas spec.uuid spec.name spec.region spec.size spec.make

pub returns-clause-delete : goal.returns-clause-delete
returns-clause-delete c = changing.delete_apart

pub returns-clause-rename : goal.returns-clause-rename
returns-clause-rename c = changing.rename_apart
