use Rattle.std.proofs.Common.{◌≡◌, ◌+◌, ◌++◌, ℕ, get_or, length}
use Rattle.lane_sessions.specs.Making.{AreSeated}
use Rattle.lane_sessions.proofs.seating.seat.Given as goal

abbrev pub invariant-loop-pass : goal.invariant-loop-pass
invariant-loop-pass l = record {
  whole : l.yielded ++ l.pass-iterator.rest.items ≡ l.fn.pool.items;
  count : length l.sessions.items ≡ length l.yielded;
  behind : length l.yielded + length l.rest.rest.items ≡ length l.fn.rows.items;
  rows : (i : ℕ) (d : _) → get_or l.rest.rest.items i d ≡ get_or l.fn.rows.items (length l.yielded + i) d;
  seated : AreSeated l.limits l.fn.pool.items l.fn.rows.items l.sessions.items;
}
