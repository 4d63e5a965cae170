use Rattle.std.proofs.Common.{◌≡◌, ◌+◌, ◌++◌, ℕ, get_or, length}
use Rattle.session_service.specs.Seated.{AreSeated}
use Rattle.session_service.proofs.seats.seat.Given as goal

abbrev pub invariant-loop-session : goal.invariant-loop-session
invariant-loop-session l = record {
  whole : l.yielded ++ l.session-iterator.rest.items ≡ l.fn.sessions.items;
  count : length l.runners.items ≡ length l.yielded;
  behind : length l.yielded + length l.rest.rest.items ≡ length l.fn.orders.items;
  orders : (i : ℕ) (d : _) → get_or l.rest.rest.items i d ≡ get_or l.fn.orders.items (length l.yielded + i) d;
  seated : AreSeated l.fn.sessions.items l.fn.orders.items l.runners.items;
}
