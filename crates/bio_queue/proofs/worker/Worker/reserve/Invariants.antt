use Rattle.std.proofs.Common.{◌≡◌, ◌+◌, length}
use Rattle.bio_queue.proofs.worker.Worker.reserve.Given as goal

abbrev pub invariant-loop : goal.invariant-loop
invariant-loop g l = record {
  ticket : l.self.ticket ≡ l.initial.self.ticket;
  party : l.self.party ≡ l.initial.self.party;
  sectors : l.self.sectors ≡ l.initial.self.sectors;
  width : l.self.width ≡ l.initial.self.width;
  session : l.self.session ≡ l.initial.self.session;
  cut : l.self.cut ≡ l.initial.self.cut;
  completed : l.self.completed ≡ l.initial.self.completed;
  rooms : length l.self.rooms.items ≡ length l.initial.self.rooms.items + l.counter;
}
