use Rattle.std.proofs.Common.{◌≡◌, ◌-◌, Some, None, length, take, vec_capacity}
use Rattle.turn_lock.specs.Passes.{lock_of, number_of, part_of, out_of}
use Rattle.turn_callers.specs.Replay.{made}
use Rattle.turn_callers.specs.Shares.{share}
use Rattle.turn_callers.proofs.script.run_session.Given as goal

abbrev pub invariant-loop-call : goal.invariant-loop-call
invariant-loop-call g l = record {
  lock : lock_of l.pass ≡ lock_of l.initial.pass;
  number : number_of l.pass ≡ number_of l.initial.pass;
  outside : out_of l.pass ≡ None;
  part : part_of l.pass ≡ Some (share (made (number_of l.initial.pass) (take l.call-index l.calls) l.replies.items) (length l.calls - l.call-index));
  count : length l.replies.items ≡ l.call-index;
  capacity : vec_capacity l.replies ≡ vec_capacity l.initial.replies;
}
