use Rattle.std.proofs.Common.{◌≡◌, ◌++◌, map, vec_capacity}
use Rattle.bio_queue.proofs.closing.take_workers.Given as goal

abbrev pub invariant-loop-worker : goal.invariant-loop-worker
invariant-loop-worker g l = record {
  passes : l.rows.passes.items ≡ l.fn.rows.passes.items ++ map (λ w. w.ticket) l.yielded;
  completed : l.rows.completed.items ≡ map (λ w. w.completed) l.yielded;
  cut : l.rows.cut.items ≡ map (λ w. w.cut) l.yielded;
  sessions : l.rows.sessions.items ≡ map (λ w. w.session) l.yielded;
  room_passes : vec_capacity l.rows.passes ≡ vec_capacity l.fn.rows.passes;
  room_completed : vec_capacity l.rows.completed ≡ vec_capacity l.fn.rows.completed;
  room_cut : vec_capacity l.rows.cut ≡ vec_capacity l.fn.rows.cut;
  room_sessions : vec_capacity l.rows.sessions ≡ vec_capacity l.fn.rows.sessions;
  rest : l.yielded ++ l.worker-iterator.rest.items ≡ l.fn.workers.items;
}
