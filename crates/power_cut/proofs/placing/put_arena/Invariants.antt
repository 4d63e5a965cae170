use Rattle.std.proofs.Common.{◌≡◌, length, ◌*◌}
use Rattle.std.specs.List.{All}
use Rattle.power_cut.specs.Placing.{IsRoom, put_runs}
use Rattle.power_cut.proofs.placing.put_arena.Given as goal

abbrev pub invariant-loop-place : goal.invariant-loop-place
invariant-loop-place l = record {
  counts : length l.rest ≡ l.fn.arena.run * length l.place-iterator.rest.items;
  rooms : All (IsRoom l.rows.items l.fn.arena.run) l.place-iterator.rest.items;
  same : put_runs l.fn.arena.run l.rest l.place-iterator.rest.items l.rows.items ≡ put_runs l.fn.arena.run l.fn.arena.words l.fn.arena.places l.fn.rows.items;
}
