use Rattle.std.proofs.Common.{◌≡◌, length, map}
use Rattle.std.specs.Prelude.{All}
use Rattle.turn_lock.specs.Passes.{lock_id}
use Rattle.turn_callers.specs.Sessions.{AreReady, IsNew}
use Rattle.turn_callers.proofs.shelf.shelve.Given as goal

abbrev pub invariant-loop-place : goal.invariant-loop-place
invariant-loop-place l = record {
  count : length l.turns.items ≡ l._place;
  same : length l.sessions ≡ length l.scripts;
  ready : AreReady (map lock_id l.turns.items) l.scripts l.sessions;
  new : All (IsNew (length l.scripts)) l.turns.items;
}
