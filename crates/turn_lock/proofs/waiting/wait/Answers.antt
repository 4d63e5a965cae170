use Rattle.std.proofs.Common.{◌∙◌}
use Rattle.turn_lock.proofs.waiting.wait.Goals as goal

pub returns-in-Ok-clause-inside : goal.returns-in-Ok-clause-inside
returns-in-Ok-clause-inside g c = λ d is. c.in-Ok.ensures.took d (c.loop.invariant.1 ∙ is)
