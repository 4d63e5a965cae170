use Rattle.std.proofs.Common.{◌≡◌, ◌<◌, ◌≤◌, ℕ, [], ◌∷◌, ◌++◌, length, get_or}
use Rattle.lane_sessions.proofs.places.take_last.Given as goal

abbrev pub invariant-loop-row : goal.invariant-loop-row
invariant-loop-row g l = record {
  same : length l.row-items ≡ length l.initial.row-items;
  count : length l.last.items ≡ l.row-index;
  before : (i : ℕ) (d : _) → l.row-index ≤ i → get_or l.row-items i d ≡ get_or l.initial.row-items i d;
  after : (i : ℕ) (d : _) (e : _) → i < l.row-index → (get_or l.initial.row-items i d).items ≡ (get_or l.row-items i d).items ++ get_or l.last.items i e ∷ [];
}
