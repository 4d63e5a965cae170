use Rattle.registry_service.proofs.Laws.{open_goes_on}
use Rattle.registry_service.proofs.law.open_goes_on.Goals as goal

pub returns : goal.returns
returns c = open_goes_on
