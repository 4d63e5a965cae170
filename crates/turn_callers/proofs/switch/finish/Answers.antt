use Rattle.std.proofs.Common.{arith}
use Rattle.turn_lock.specs.Passes.{first_of}
use Rattle.turn_lock.proofs.Rows.{has_each}
use Rattle.turn_callers.proofs.Told.{stops}
use Rattle.turn_callers.proofs.switch.finish.Goals as goal

pub close-requires-clause-every : goal.close-requires-clause-every
close-requires-clause-every c = λ q h. has_each c.args.passes.items c.requires.order q (omega (arith, h, c.requires.count))

pub returns : goal.returns
returns c = stops c.args.passes.items c.requires.order c.close.result (first_of c.args.turn) c.close.ensures.callers
    (λ q over. c.close.ensures.strangers q (omega (arith, over, c.requires.count)))
    (λ q over. c.requires.first q (omega (arith, over, c.requires.count)))
