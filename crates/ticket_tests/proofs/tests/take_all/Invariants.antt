use Rattle.crossbeam_queue.specs.Passes.{view, IsPassOf}
use Rattle.ticket_queue.specs.Law.{IsHandOf}
use Rattle.ticket_tests.proofs.tests.take_all.Given as goal

abbrev pub invariant-loop-item : goal.invariant-loop-item
invariant-loop-item g l = record {
  queue : IsPassOf l.queue l.pass;
  party : IsHandOf 1 (view l.pass);
}
