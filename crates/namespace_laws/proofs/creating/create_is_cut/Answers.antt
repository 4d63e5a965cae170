use Rattle.namespace_laws.proofs.CreateCut as cut
use Rattle.namespace_laws.proofs.creating.create_is_cut.Goals as goal

pub returns-clause-left : goal.returns-clause-left
returns-clause-left c = λ sets areas spec. cut.create_is_cut sets areas spec.uuid spec.name spec.region spec.size spec.make

pub returns-clause-alone : goal.returns-clause-alone
returns-clause-alone c = λ sets areas spec. cut.create_is_cut_alone sets areas spec.uuid spec.name spec.region spec.size spec.make
