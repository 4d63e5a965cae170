-- What was completed of the jobs of several desks. The jobs may be of any type: a type that holds a callback isn't named here.
use Rattle.std.specs.Prelude.{◌≡◌, ℕ, zero, suc, ◌+◌, Bool, true, List, [], ◌∷◌, length, filter, ◌==◌, ◌&&◌}
use mathlib.Core.Option.{some}
use lib.ListN.{get_elem?}
use Rattle.ticket_queue.specs.Account.{Rises, below, times}
use Rattle.session_parts.specs.declared.parts.CorePart.{CorePart}
use Rattle.session_parts.specs.Parts.{part}
use Rattle.bio_queue.specs.declared.bio.Completed.{Completed}
use Rattle.bio_queue.specs.Standing.{stands_of}

-- it is operation n of submitter s
abbrev pub is_of : ℕ → ℕ → Completed → Bool
is_of s n c = (c.submitter == s) && (c.number == n)

-- how often operation n of submitter s was completed, by any worker
abbrev pub times_completed : ℕ → ℕ → List (List Completed) → ℕ
times_completed s n [] = 0
times_completed s n (cs ∷ rows) = times (is_of s n) cs + times_completed s n rows

-- how many jobs a desk had; none if there is no such desk
abbrev pub count_at : {J : Type 0} → List (List J) → ℕ → ℕ
count_at [] s = 0
count_at (js ∷ jobs) zero = length js
count_at (js ∷ jobs) (suc s) = count_at jobs s

-- All jobs of all desks were completed. The list of a desk's jobs has its first one last. Row w is what worker w completed, in order.
pub record AreServed {J : Type 0} (jobs : List (List J)) (rows : List (List Completed)) (R : J → Completed → Type 0) : Type 0 where
  pub count : length rows ≡ length jobs
  -- operation n of submitter s was completed exactly once if desk s had so many jobs, and else not at all
  pub once : (s n : ℕ) → times_completed s n rows ≡ below n (count_at jobs s)
  pub by : (w i : ℕ) (cs : List Completed) (c : Completed) → get_elem? rows w ≡ some cs → get_elem? cs i ≡ some c → c.worker ≡ w
  -- it is the desk's job with this number, and R says what came of it
  pub each : (w i k : ℕ) (cs : List Completed) (c : Completed) (js : List J) (j : J) → get_elem? rows w ≡ some cs → get_elem? cs i ≡ some c
      → get_elem? jobs c.submitter ≡ some js → c.number + k + 1 ≡ length js → get_elem? js k ≡ some j → R j c
  -- a worker's operations of one submitter are in the order in which they were submitted
  pub rises : (w s : ℕ) (cs : List Completed) → get_elem? rows w ≡ some cs → Rises (λ (c : Completed). c.number) 0 (filter (λ (c : Completed). c.submitter == s) cs)

-- what row q is in the arena's history
abbrev pub known_by : List (List Completed) → ℕ → CorePart
known_by [] q = part [] []
known_by (cs ∷ rows) zero = part (stands_of cs) []
known_by (cs ∷ rows) (suc q) = known_by rows q
