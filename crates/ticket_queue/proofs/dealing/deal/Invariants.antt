use Rattle.std.proofs.Common.{◌≡◌, ◌≤◌, length, map, vec_capacity}
use Rattle.std.specs.Prelude.{All}
use Rattle.crossbeam_queue.specs.Passes.{view, IsPassOf, IsSamePass}
use Rattle.ticket_queue.specs.Law.{all_from}
use Rattle.ticket_queue.specs.Parties.{AreNew}
use Rattle.ticket_queue.proofs.dealing.deal.Given as goal

abbrev pub invariant-loop : goal.invariant-loop
invariant-loop g l = record {
  same : IsSamePass l.initial.maker l.maker;
  count : length l.passes.items ≡ l.counter;
  room : l.count ≤ vec_capacity l.passes;
  maker : view l.maker ≡ all_from (length l.passes.items);
  all : All (λ p. IsPassOf l.queue p) l.passes.items;
  new : AreNew (map view l.passes.items);
}
