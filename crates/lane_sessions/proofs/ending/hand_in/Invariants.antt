use Rattle.std.proofs.Common.{◌≡◌, map}
use Rattle.lane_sessions.proofs.ending.hand_in.Given as goal

abbrev pub invariant-loop-session : goal.invariant-loop-session
invariant-loop-session l = record {
  passes : l.passes.items ≡ map (λ s. s.passes) l.yielded;
  turns : l.turns.items ≡ map (λ s. s.caller.pool) l.yielded;
}
