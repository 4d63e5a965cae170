use Rattle.ticket_queue.proofs.Counting.{account}
use Rattle.ticket_queue.proofs.account.order_gives_account.Goals as goal

pub returns : goal.returns
returns g c number vs left o counted = account number vs left o counted
