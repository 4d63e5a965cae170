use Rattle.std.proofs.Common.{◌≡◌}
use Rattle.lane_table.specs.Fuse.{Fell}
use Rattle.lane_table.specs.Stages.{after_stores}
use Rattle.lane_table.specs.Told.{IsAfter}
use Rattle.lane_table.proofs.staging.store_words.Given as goal

abbrev pub invariant-loop-k : goal.invariant-loop-k
invariant-loop-k l = record {
  table : l.seat.table_id ≡ l.initial.seat.table_id;
  after : IsAfter l.k l.initial.seat.me (after_stores l.words l.k l.initial.seat.me.0.lane) l.seat.me;
  fell : Fell l.k l.initial.fuse l.fuse;
}
