use Rattle.registry_service.proofs.Laws.{orders_answer}
use Rattle.registry_service.proofs.law.orders_answer.Goals as goal

pub returns : goal.returns
returns c = orders_answer
