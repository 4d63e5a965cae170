use Rattle.registry_service.proofs.Laws.{begins_empty}
use Rattle.registry_service.proofs.law.begins_empty.Goals as goal

pub returns : goal.returns
returns c = begins_empty
