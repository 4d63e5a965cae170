use Rattle.std.proofs.Common.{◌≡◌, ◌<◌, ◌≤◌, ℕ, [], ◌∷◌, ◌++◌, length, get_or}
use Rattle.turn_callers.proofs.seats.hand_out.Given as goal

abbrev pub invariant-loop-pass : goal.invariant-loop-pass
invariant-loop-pass l = record {
  same : length l.sessions ≡ length l.initial.sessions;
  short : length l.passes.items ≤ length l.sessions;
  kept : (q : ℕ) (e : _) → q < length l.passes.items → get_or l.passes.items q e ≡ get_or l.fn.passes.items q e;
  before : (q : ℕ) (d : _) → q < length l.passes.items → get_or l.sessions q d ≡ get_or l.initial.sessions q d;
  after : (q : ℕ) (d : _) (e : _) → length l.passes.items ≤ q → q < length l.sessions → (get_or l.sessions q d).passes.items ≡ (get_or l.initial.sessions q d).passes.items ++ get_or l.fn.passes.items q e ∷ [];
  others : (q : ℕ) (d : _) → q < length l.sessions → ((get_or l.sessions q d).number ≡ (get_or l.initial.sessions q d).number) × ((get_or l.sessions q d).replies ≡ (get_or l.initial.sessions q d).replies);
}

abbrev pub decreases-loop-pass : goal.decreases-loop-pass
decreases-loop-pass l = length l.passes.items
