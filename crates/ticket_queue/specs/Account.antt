-- What an order of taking means for the tickets of each party and their numbers.
use Rattle.std.specs.Prelude.{◌≡◌, ℕ, zero, suc, ◌+◌, ◌<◌, ◌≤◌, Bool, true, false, List, [], ◌∷◌, length, ◌==◌, ◌&&◌}
use mathlib.Core.Option.{some}
use lib.ListN.{get_elem?}
use Rattle.ticket_queue.specs.declared.ticket.Ticket.{Ticket}
use Rattle.ticket_queue.specs.declared.ticket.View.{View}
use Rattle.ticket_queue.specs.Law.{put_by}
use Rattle.ticket_queue.specs.Parties.{put_in, taken_in}

-- ---- counting

abbrev pub one_if : Bool → ℕ
one_if true = 1
one_if false = 0

-- how many elements pass the test
abbrev pub times : {A : Type 0} → (A → Bool) → List A → ℕ
times p [] = 0
times p (x ∷ xs) = one_if (p x) + times p xs

-- the sum of f at the numbers below n
abbrev pub total : (ℕ → ℕ) → ℕ → ℕ
total f zero = 0
total f (suc n) = total f n + f n

-- 1 if the first number is below the second, else 0
abbrev pub below : ℕ → ℕ → ℕ
below n zero = 0
below zero (suc m) = 1
below (suc n) (suc m) = below n m

-- the numbers rise, and are o at least
abbrev pub Rises : {A : Type 0} → (A → ℕ) → ℕ → List A → Type 0
Rises f o [] = Unit {0}
Rises f o (x ∷ xs) = (o ≤ f x) × Rises f (f x + 1) xs

module _ {T : Type 0} where
  -- what party k put
  abbrev pub put_at : List (View T) → ℕ → List (Ticket T)
  put_at [] k = []
  put_at (v ∷ vs) zero = put_in v
  put_at (v ∷ vs) (suc k) = put_at vs k

  -- what party k took
  abbrev pub taken_at : List (View T) → ℕ → List (Ticket T)
  taken_at [] k = []
  taken_at (v ∷ vs) zero = taken_in v
  taken_at (v ∷ vs) (suc k) = taken_at vs k

  -- ---- numbers

  -- each party's tickets have the numbers 0, 1, 2 and so on, in the order in which it put them
  abbrev pub AreCounted : (T → ℕ) → List (View T) → Type 0
  AreCounted number vs = (s i : ℕ) (t : Ticket T) → get_elem? (put_at vs s) i ≡ some t → number t.item ≡ i

  -- it is ticket n of party s
  abbrev pub is_at : (T → ℕ) → ℕ → ℕ → Ticket T → Bool
  is_at number s n t = (t.party == s) && (number t.item == n)

  -- how often ticket n of party s was taken by one of the passes
  abbrev pub times_taken : (T → ℕ) → List (View T) → ℕ → ℕ → ℕ
  times_taken number vs s n = total (λ k. times (is_at number s n) (taken_at vs k)) (length vs)

-- Each ticket that was taken was put by its party, and so was each that is left. So what holds of all that was put holds of these.
pub record IsOnlyWhatWasPut {T : Type 0} (vs : List (View T)) (left : List (Ticket T)) : Type 0 where
  pub taken : (k i : ℕ) (t : Ticket T) → get_elem? (taken_at vs k) i ≡ some t → (j : ℕ) × (get_elem? (put_at vs t.party) j ≡ some t)
  pub remaining : (i : ℕ) (t : Ticket T) → get_elem? left i ≡ some t → (j : ℕ) × (get_elem? (put_at vs t.party) j ≡ some t)

-- The account of numbered tickets. `put_by s` are those of party s.
pub record IsAccount {T : Type 0} (number : T → ℕ) (vs : List (View T)) (left : List (Ticket T)) : Type 0 where
  -- ticket n of party s stands exactly once in what was taken and what is left, if party s put so many; else nowhere
  pub once : (s n : ℕ) → times_taken number vs s n + times (is_at number s n) left ≡ below n (length (put_at vs s))
  -- what party k took of party s comes in the order in which party s put it
  pub rises : (k s : ℕ) → Rises (λ t. number t.item) 0 (put_by s (taken_at vs k))
  -- and before all that is left of party s
  pub above : (k s i j : ℕ) (t u : Ticket T) → get_elem? (put_by s (taken_at vs k)) i ≡ some t → get_elem? (put_by s left) j ≡ some u → number t.item < number u.item
  -- a ticket that was taken is the very one that was put, and so is one that is left
  pub own : (k s i : ℕ) (t : Ticket T) → get_elem? (put_by s (taken_at vs k)) i ≡ some t → get_elem? (put_at vs s) (number t.item) ≡ some t
  pub own_left : (s i : ℕ) (t : Ticket T) → get_elem? (put_by s left) i ≡ some t → get_elem? (put_at vs s) (number t.item) ≡ some t
