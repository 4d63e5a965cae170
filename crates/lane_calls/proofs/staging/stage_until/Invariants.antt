use Rattle.std.proofs.Common.{◌≡◌}
use Rattle.turn_lock.specs.Passes.{lock_id, part_of, IsSamePass}
use Rattle.lane_table.specs.Kits.{spare_in}
use Rattle.lane_calls.specs.Lanes.{MayAsk, Pays, Stays}
use Rattle.lane_calls.proofs.staging.stage_until.Given as goal

abbrev pub invariant-loop : goal.invariant-loop
invariant-loop g l = record {
  same : Stays l.fn.lane.kit l.lane.kit;
  spare : spare_in l.lane.kit ≡ spare_in l.fn.lane.kit;
  paid : Pays 0 l.fn.lane.kit l.lane.kit;
  pass : IsSamePass l.fn.pass l.pass;
  may_ask : MayAsk (lock_id l.pool.turn) l.pass;
  part : part_of l.pass ≡ part_of l.fn.pass;
}
