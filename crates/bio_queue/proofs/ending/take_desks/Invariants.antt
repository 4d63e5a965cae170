use Rattle.std.proofs.Common.{◌≡◌, ◌++◌, map, vec_capacity}
use Rattle.bio_queue.proofs.ending.take_desks.Given as goal

abbrev pub invariant-loop-desk : goal.invariant-loop-desk
invariant-loop-desk g l = record {
  submitters : l.sides.submitters.items ≡ map (λ d. d.submitter) l.yielded;
  workers : l.sides.workers.items ≡ map (λ d. d.worker) l.yielded;
  room_submitters : vec_capacity l.sides.submitters ≡ vec_capacity l.fn.sides.submitters;
  room_workers : vec_capacity l.sides.workers ≡ vec_capacity l.fn.sides.workers;
  rest : l.yielded ++ l.desk-iterator.rest.items ≡ l.fn.desks.items;
}
