use Rattle.std.proofs.Common.{◌≡◌, None}
use Rattle.turn_lock.specs.Passes.{lock_of, number_of, part_of, out_of}
use Rattle.lane_pool.proofs.turns.LanePool.take.Given as goal

abbrev pub invariant-loop : goal.invariant-loop
invariant-loop g l = record {
  lock : lock_of l.pass ≡ lock_of l.initial.pass;
  number : number_of l.pass ≡ number_of l.initial.pass;
  outside : out_of l.pass ≡ None;
  part : part_of l.pass ≡ part_of l.initial.pass;
}
