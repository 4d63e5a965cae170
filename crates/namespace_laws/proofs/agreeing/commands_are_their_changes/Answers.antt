use Rattle.namespace_laws.proofs.AgreesCreate as creating
use Rattle.namespace_laws.proofs.First as changing
use Rattle.namespace_laws.proofs.agreeing.commands_are_their_changes.Goals as goal

pub returns-clause-create : goal.returns-clause-create
returns-clause-create c = λ sets areas spec. creating.create_agrees sets areas spec.uuid spec.name spec.region spec.size spec.make

pub returns-clause-delete : goal.returns-clause-delete
returns-clause-delete c = changing.delete_agrees

pub returns-clause-rename : goal.returns-clause-rename
returns-clause-rename c = changing.rename_agrees
