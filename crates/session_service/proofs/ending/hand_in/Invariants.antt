use Rattle.std.proofs.Common.{◌≡◌, map}
use Rattle.session_service.proofs.ending.hand_in.Given as goal

abbrev pub invariant-loop-runner : goal.invariant-loop-runner
invariant-loop-runner l = record {
  sessions : l.sessions.items ≡ map (λ r. r.session) l.yielded;
  orders : l.orders.items ≡ map (λ r. r.orders) l.yielded;
  texts : l.texts.items ≡ map (λ r. r.text) l.yielded;
}
