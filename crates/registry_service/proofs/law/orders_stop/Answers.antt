use Rattle.registry_service.proofs.Laws.{orders_stop}
use Rattle.registry_service.proofs.law.orders_stop.Goals as goal

pub returns : goal.returns
returns c = orders_stop
