use Rattle.ticket_queue.proofs.Keeps.{begins}
use Rattle.ticket_queue.proofs.making.new_queue.Goals as goal

pub ruled-requires-clause-rule : goal.ruled-requires-clause-rule
ruled-requires-clause-rule g c = begins
