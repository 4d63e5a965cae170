use Rattle.std.proofs.Common.{◌≡◌, ◌++◌, None}
use Rattle.std.proofs.Math.ListN.{replicate}
use Rattle.turn_lock.proofs.dealing.add_empty.Given as goal

abbrev pub invariant-loop : goal.invariant-loop
invariant-loop g l = l.slots.items ≡ l.initial.slots.items ++ replicate l.counter None
