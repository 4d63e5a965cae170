use Rattle.namespace_laws.proofs.RecoveryLaw as law
use Rattle.namespace_laws.proofs.settling.recovery_is_its_changes.Goals as goal

pub returns : goal.returns
returns c = law.recovery_agrees
