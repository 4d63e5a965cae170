use Rattle.std.proofs.Common.{◌≡◌}
use Rattle.lane_table.specs.Fuse.{Fell}
use Rattle.lane_table.specs.Stages.{after_scans, scans_before}
use Rattle.lane_table.specs.Told.{IsAfter}
use Rattle.lane_table.proofs.staging.scan.Given as goal

abbrev pub invariant-loop-row : goal.invariant-loop-row
invariant-loop-row l = record {
  table : l.seat.table_id ≡ l.initial.seat.table_id;
  after : IsAfter (scans_before l.mine.number l.shape l.row) l.initial.seat.me (after_scans l.shape (scans_before l.mine.number l.shape l.row) l.initial.seat.me.0.lane) l.seat.me;
  fell : Fell (scans_before l.mine.number l.shape l.row) l.initial.fuse l.fuse;
}
