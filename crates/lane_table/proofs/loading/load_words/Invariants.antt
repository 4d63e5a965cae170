use Rattle.std.proofs.Common.{◌≡◌, drop, length}
use Rattle.lane_table.specs.Fuse.{Fell}
use Rattle.lane_table.specs.Reads.{after_loads}
use Rattle.lane_table.specs.Told.{IsAfter}
use Rattle.lane_table.proofs.loading.load_words.Given as goal

abbrev pub invariant-loop-k : goal.invariant-loop-k
invariant-loop-k l = record {
  table : l.seat.table_id ≡ l.fn.seat.table_id;
  after : IsAfter l.k l.fn.seat.me (after_loads l.into l.k l.fn.seat.me.0.lane) l.seat.me;
  rest : drop l.k l.into ≡ drop l.k l.fn.into;
  size : length l.into ≡ length l.fn.into;
  fell : Fell l.k l.fn.fuse l.own;
}
