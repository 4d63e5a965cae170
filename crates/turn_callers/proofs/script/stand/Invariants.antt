use Rattle.std.proofs.Common.{◌≡◌, map}
use Rattle.turn_callers.proofs.script.stand.Given as goal

abbrev pub invariant-loop-session : goal.invariant-loop-session
invariant-loop-session l = (l.passes.items ≡ map (λ s. s.pass) l.yielded) × (l.all.items ≡ map (λ s. s.replies) l.yielded)
