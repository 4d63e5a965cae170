use Rattle.crossbeam_queue.specs.Passes.{view, IsSamePass}
use Rattle.ticket_queue.specs.Law.{IsHandOf}
use Rattle.ticket_tests.proofs.tests.take_until.Given as goal

abbrev pub invariant-loop : goal.invariant-loop
invariant-loop g l = record {
  same : IsSamePass l.initial.pass l.pass;
  party : IsHandOf 1 (view l.pass);
}
