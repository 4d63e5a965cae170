use Rattle.std.proofs.Common.{◌≡◌, ◌<◌, ◌≤◌, ℕ, [], ◌∷◌, ◌++◌, length, get_or}
use Rattle.turn_callers.proofs.seats.take_back.Given as goal

abbrev pub invariant-loop-session : goal.invariant-loop-session
invariant-loop-session l = record {
  same : length l.session-items ≡ length l.initial.session-items;
  count : length l.passes.items ≡ l.session-index;
  before : (q : ℕ) (d : _) → l.session-index ≤ q → get_or l.session-items q d ≡ get_or l.initial.session-items q d;
  after : (q : ℕ) (d : _) (e : _) → q < l.session-index → (get_or l.initial.session-items q d).passes.items ≡ (get_or l.session-items q d).passes.items ++ get_or l.passes.items q e ∷ [];
  others : (q : ℕ) (d : _) → q < length l.session-items → ((get_or l.session-items q d).number ≡ (get_or l.initial.session-items q d).number) × ((get_or l.session-items q d).replies ≡ (get_or l.initial.session-items q d).replies);
}
