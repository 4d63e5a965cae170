use Rattle.std.proofs.Common.{◌≡◌, ◌<◌, ◌≤◌, ℕ, [], ◌∷◌, ◌++◌, length, get_or}
use Rattle.lane_sessions.proofs.rows.push_each.Given as goal

abbrev pub invariant-loop-item : goal.invariant-loop-item
invariant-loop-item g l = record {
  same : length l.rows.items ≡ length l.initial.rows.items;
  short : length l.items.items ≤ length l.rows.items;
  kept : (q : ℕ) (e : _) → q < length l.items.items → get_or l.items.items q e ≡ get_or l.fn.items.items q e;
  before : (q : ℕ) (d : _) → q < length l.items.items → get_or l.rows.items q d ≡ get_or l.initial.rows.items q d;
  after : (q : ℕ) (d : _) (e : _) → length l.items.items ≤ q → q < length l.rows.items → (get_or l.rows.items q d).items ≡ (get_or l.initial.rows.items q d).items ++ get_or l.fn.items.items q e ∷ [];
}

abbrev pub decreases-loop-item : goal.decreases-loop-item
decreases-loop-item g l = length l.items.items
