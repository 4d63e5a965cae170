use Rattle.std.proofs.Common.{◌≡◌}
use Rattle.turn_lock.specs.Passes.{lock_id, part_of, IsSamePass}
use Rattle.lane_table.specs.Kits.{spare_in}
use Rattle.lane_calls.specs.Lanes.{MayAsk, Pays, Stays, words_in}
use Rattle.lane_calls.proofs.writing.commit_until.Given as goal

abbrev pub invariant-loop : goal.invariant-loop
invariant-loop g l = record {
  same : Stays l.fn.staged.kit l.staged.kit;
  spare : spare_in l.staged.kit ≡ spare_in l.fn.staged.kit;
  words : words_in l.staged.kit ≡ words_in l.fn.staged.kit;
  paid : Pays 0 l.fn.staged.kit l.staged.kit;
  pass : IsSamePass l.fn.pass l.pass;
  may_ask : MayAsk (lock_id l.pool.turn) l.pass;
  part : part_of l.pass ≡ part_of l.fn.pass;
}
