use Rattle.namespace_laws.proofs.Cuts as law
use Rattle.namespace_laws.proofs.settling.cut_recovery_resumes.Goals as goal

pub returns : goal.returns
returns c = law.recovery_resumes
