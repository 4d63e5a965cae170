use Rattle.std.proofs.Common.{◌≡◌, [], length}
use Rattle.turn_callers.specs.Sessions.{AreReady}
use Rattle.turn_callers.proofs.seats.stools.Given as goal

abbrev pub invariant-loop-i : goal.invariant-loop-i
invariant-loop-i l = (length l.sessions.items ≡ l.i) × AreReady [] l.scripts l.sessions.items
