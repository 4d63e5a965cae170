use Rattle.std.proofs.Common.{◌≡◌, ◌+◌, ◌-◌, false}
use Rattle.lane_table.specs.Fuse.{Fell}
use Rattle.lane_table.specs.Stages.{after_scans, others_below}
use Rattle.lane_table.specs.Told.{IsAfter}
use Rattle.lane_table.proofs.staging.scan_row.Given as goal

abbrev pub invariant-loop-i : goal.invariant-loop-i
invariant-loop-i l = record {
  table : l.seat.table_id ≡ l.initial.seat.table_id;
  after : IsAfter l.i l.initial.seat.me (after_scans l.shape (l.before + l.i) l.initial.seat.me.0.lane) l.seat.me;
  unset : l.own.set ≡ false;
}

abbrev pub invariant-loop-other : goal.invariant-loop-other
invariant-loop-other l = record {
  table : l.seat.table_id ≡ l.initial.seat.table_id;
  after : IsAfter (others_below l.mine.number l.other - others_below l.mine.number l.first) l.initial.seat.me (after_scans l.shape (others_below l.mine.number l.other) l.initial.seat.me.0.lane) l.seat.me;
  fell : Fell (others_below l.mine.number l.other - others_below l.mine.number l.first) l.initial.fuse l.fuse;
}
