use Rattle.registry_service.proofs.Laws.{cuts_have_cause}
use Rattle.registry_service.proofs.law.cuts_have_cause.Goals as goal

pub returns : goal.returns
returns c = cuts_have_cause
