use Rattle.std.proofs.Common.{◌≡◌, ◌++◌, map, vec_capacity}
use Rattle.bio_queue.proofs.closing.take_submitters.Given as goal

abbrev pub invariant-loop-submitter : goal.invariant-loop-submitter
invariant-loop-submitter g l = record {
  passes : l.passes.items ≡ l.fn.passes.items ++ map (λ s. s.pass) l.yielded;
  room : vec_capacity l.passes ≡ vec_capacity l.fn.passes;
  rest : l.yielded ++ l.submitter-iterator.rest.items ≡ l.fn.submitters.items;
}
