use Rattle.namespace_laws.proofs.First as changing
use Rattle.namespace_laws.proofs.RecoversLaw as creating
use Rattle.namespace_laws.proofs.recovering.cuts_recover_to_either.Goals as goal

pub returns-clause-create : goal.returns-clause-create
returns-clause-create c = λ sets areas spec. creating.create_recovers sets areas spec.uuid spec.name spec.region spec.size spec.make

pub returns-clause-delete : goal.returns-clause-delete
returns-clause-delete c = changing.delete_recovers

pub returns-clause-rename : goal.returns-clause-rename
returns-clause-rename c = changing.rename_recovers
