use Rattle.std.proofs.Common.{◌≡◌, ◌-◌, None}
use Rattle.std.specs.Prelude.{IsSomeAnd}
use Rattle.turn_lock.specs.Passes.{lock_of, number_of, part_of, out_of}
use Rattle.turn_callers.proofs.counting.take_turns.Given as goal

abbrev pub invariant-loop-i : goal.invariant-loop-i
invariant-loop-i g l = record {
  lock : lock_of l.pass ≡ lock_of l.initial.pass;
  number : number_of l.pass ≡ number_of l.initial.pass;
  outside : out_of l.pass ≡ None;
  left : IsSomeAnd (part_of l.pass) (λ s. s.left ≡ l.turns - l.i);
}
