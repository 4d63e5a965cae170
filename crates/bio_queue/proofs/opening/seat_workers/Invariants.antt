use Rattle.std.proofs.Common.{◌≡◌, ◌+◌, ◌++◌, ℕ, [], length, map, None, vec_capacity}
use mathlib.Core.Option.{some}
use lib.ListN.{get_elem?}
use Rattle.bio_queue.proofs.opening.seat_workers.Given as goal

abbrev pub invariant-loop-ticket : goal.invariant-loop-ticket
invariant-loop-ticket g l = record {
  passes : map (λ w. w.ticket) l.workers.items ≡ l.yielded;
  count : length l.workers.items ≡ length l.yielded;
  sessions : map (λ w. w.session) l.workers.items ++ l.rest.rest.items ≡ l.fn.sessions.items;
  each : (k : ℕ) (w : _) → get_elem? l.workers.items k ≡ some w → (w.party ≡ l.submitters + k) × (w.sectors ≡ l.sectors) × (w.width ≡ l.width) × (w.completed.items ≡ []) × (w.cut ≡ None);
  room : vec_capacity l.workers ≡ vec_capacity l.fn.workers;
  done : l.yielded ++ l.ticket-iterator.rest.items ≡ l.fn.others.items;
}
