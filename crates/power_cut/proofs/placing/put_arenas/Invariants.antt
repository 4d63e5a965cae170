use Rattle.std.proofs.Common.{◌≡◌}
use Rattle.std.specs.List.{All}
use Rattle.power_cut.specs.Placing.{HasRoom, put_arenas}
use Rattle.power_cut.proofs.placing.put_arenas.Given as goal

abbrev pub invariant-loop-arena : goal.invariant-loop-arena
invariant-loop-arena l = record {
  has : All (HasRoom l.rows.items) l.arena-iterator.rest.items;
  same : put_arenas l.arena-iterator.rest.items l.rows.items ≡ put_arenas l.fn.arenas.items l.fn.rows;
}
