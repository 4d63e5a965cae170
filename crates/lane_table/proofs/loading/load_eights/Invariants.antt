use Rattle.std.proofs.Common.{◌≡◌, ◌+◌, ◌*◌, drop, length}
use Rattle.lane_table.specs.Reads.{after_loads}
use Rattle.lane_table.specs.Told.{IsAfter}
use Rattle.lane_table.proofs.loading.load_eights.Given as goal

abbrev pub invariant-loop-eight : goal.invariant-loop-eight
invariant-loop-eight l = record {
  table : l.seat.table_id ≡ l.fn.seat.table_id;
  after : IsAfter (8 * l.eight) l.fn.seat.me (after_loads l.into (8 * l.eight) l.fn.seat.me.0.lane) l.seat.me;
  rest : drop (8 * l.eight) l.into ≡ drop (8 * l.eight) l.fn.into;
  size : length l.into ≡ length l.fn.into;
}

abbrev pub invariant-loop-i : goal.invariant-loop-i
invariant-loop-i l = record {
  table : l.seat.table_id ≡ l.fn.seat.table_id;
  after : IsAfter (8 * l.eight + l.i) l.fn.seat.me (after_loads l.into (8 * l.eight + l.i) l.fn.seat.me.0.lane) l.seat.me;
  rest : drop (8 * l.eight + l.i) l.into ≡ drop (8 * l.eight + l.i) l.fn.into;
  size : length l.into ≡ length l.fn.into;
}
