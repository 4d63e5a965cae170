use Rattle.ticket_queue.proofs.Sources.{of_puts}
use Rattle.ticket_queue.proofs.account.order_is_of_puts.Goals as goal

pub returns : goal.returns
returns g c vs left o = of_puts vs left o
