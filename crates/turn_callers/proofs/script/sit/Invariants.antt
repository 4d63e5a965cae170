use Rattle.std.proofs.Common.{◌≡◌, ◌++◌, length}
use Rattle.turn_lock.specs.Passes.{lock_id}
use Rattle.turn_callers.specs.Scripts.{AreScriptsReady}
use Rattle.turn_callers.proofs.script.sit.Given as goal

abbrev pub invariant-loop-pass : goal.invariant-loop-pass
invariant-loop-pass l = record {
  rest : l.yielded ++ l.pass-iterator.rest.items ≡ l.fn.passes.items;
  count : length l.sessions.items ≡ length l.yielded;
  ready : AreScriptsReady (lock_id l.turn) l.scripts l.sessions.items;
}
