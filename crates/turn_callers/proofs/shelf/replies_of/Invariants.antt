use Rattle.std.proofs.Common.{◌≡◌, map}
use Rattle.turn_callers.proofs.shelf.replies_of.Given as goal

abbrev pub invariant-loop-session : goal.invariant-loop-session
invariant-loop-session l = l.all.items ≡ map (λ s. s.replies) l.yielded
