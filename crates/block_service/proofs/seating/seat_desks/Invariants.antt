use Rattle.std.proofs.Common.{◌≡◌, ◌++◌, ℕ, length, map, vec_capacity}
use mathlib.Core.Option.{some}
use lib.ListN.{get_elem?}
use Rattle.block_service.proofs.seating.seat_desks.Given as goal

abbrev pub invariant-loop-submitter : goal.invariant-loop-submitter
invariant-loop-submitter g l = record {
  submitters : map (λ d. d.submitter) l.desks.items ≡ l.yielded;
  count : length l.desks.items ≡ length l.yielded;
  workers : map (λ d. d.worker) l.desks.items ++ l.others.rest.items ≡ l.fn.workers.items;
  jobs : map (λ d. d.jobs) l.desks.items ++ l.rows.rest.items ≡ l.fn.jobs.items;
  limit : (k : ℕ) (d : _) → get_elem? l.desks.items k ≡ some d → d.limit ≡ l.limit;
  room : vec_capacity l.desks ≡ vec_capacity l.fn.desks;
  done : l.yielded ++ l.submitter-iterator.rest.items ≡ l.fn.submitters.items;
}
