use Rattle.std.proofs.Common.{◌≡◌, ◌++◌, ℕ, length, map, vec_capacity}
use mathlib.Core.Option.{some}
use lib.ListN.{get_elem?}
use Rattle.bio_queue.proofs.opening.seat_submitters.Given as goal

abbrev pub invariant-loop-pass : goal.invariant-loop-pass
invariant-loop-pass g l = record {
  passes : map (λ s. s.pass) l.submitters.items ≡ l.yielded;
  count : length l.submitters.items ≡ length l.yielded;
  each : (k : ℕ) (s : _) → get_elem? l.submitters.items k ≡ some s → (s.party ≡ k) × (s.sectors ≡ l.sectors) × (s.width ≡ l.width);
  room : vec_capacity l.submitters ≡ vec_capacity l.fn.submitters;
  rest : l.yielded ++ l.pass-iterator.rest.items ≡ l.fn.first.items;
}
