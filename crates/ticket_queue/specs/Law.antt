-- The rule of the queue: there is one order in which the tickets were taken, each by a party. The tickets in this order, and then those
-- that the queue holds, are what was put, in order. Each pass knows what its parties put and took.
use Rattle.std.specs.Prelude.{◌≡◌, ℕ, ◌+◌, ◌≤◌, Bool, true, false, MatchBool, List, [], ◌∷◌, ◌++◌, ◌==◌, ◌&&◌, not, map, filter}
use mathlib.Core.Option.{some}
use lib.ListN.{get_elem?}
use Rattle.ticket_queue.specs.declared.ticket.Ticket.{Ticket}
use Rattle.ticket_queue.specs.declared.ticket.Hand.{Hand}
use Rattle.ticket_queue.specs.declared.ticket.View.{View}

module _ {T : Type 0} where
  -- ---- what was put and taken

  -- the tickets that party k put
  abbrev pub put_by : ℕ → List (Ticket T) → List (Ticket T)
  put_by k ts = filter (λ (t : Ticket T). t.party == k) ts

  -- the tickets in an order of taking
  abbrev pub tickets : List (ℕ × Ticket T) → List (Ticket T)
  tickets es = map (λ (e : ℕ × Ticket T). e.1) es

  -- the tickets that party k took
  abbrev pub taken_by : ℕ → List (ℕ × Ticket T) → List (Ticket T)
  taken_by k es = tickets (filter (λ (e : ℕ × Ticket T). e.0 == k) es)

  -- ---- views

  -- what party k put and took; with `rest`, of all later parties too
  abbrev pub hand : ℕ → Bool → List (Ticket T) → List (Ticket T) → Hand T
  hand k rest put taken = record { party = k; rest = rest; put = put; taken = taken }

  -- a pass with one hand
  abbrev pub one : Hand T → View T
  one h = record { hands = h ∷ []; sure = false; known = [] }

  -- party k and all later ones, none of which put or took anything
  abbrev pub all_from : ℕ → View T
  all_from k = one (hand k true [] [])

  -- party k, which put and took nothing
  abbrev pub none_yet : ℕ → View T
  none_yet k = one (hand k false [] [])

  -- it is the pass of party k alone
  abbrev pub IsHandOf : ℕ → View T → Type 0
  IsHandOf k v = (put : List (Ticket T)) × (taken : List (Ticket T)) × (v ≡ one (hand k false put taken))

  -- ---- the same as a test, for a ghost field

  abbrev pub is_one : ℕ → List (Hand T) → Bool
  is_one k [] = false
  is_one k (h ∷ []) = not h.rest && (h.party == k)
  is_one k (h ∷ (g ∷ hs)) = false

  abbrev pub is_nil : List (Ticket T) → Bool
  is_nil [] = true
  is_nil (t ∷ ts) = false

  abbrev pub is_hand_of : ℕ → View T → Bool
  is_hand_of k v = is_one k v.hands && (not v.sure && is_nil v.known)

  -- ---- what each step makes of a view

  -- the party of the first hand
  abbrev pub first_party : List (Hand T) → ℕ
  first_party [] = 0
  first_party (h ∷ hs) = h.party

  -- the maker, when a party's pass was made
  abbrev pub dealt : View T → View T
  dealt v = all_from (first_party v.hands + 1)

  -- and that party's pass
  abbrev pub fresh : View T → View T
  fresh v = none_yet (first_party v.hands)

  -- the hands of both
  abbrev pub both : View T → View T → View T
  both v w = record { hands = v.hands ++ w.hands; sure = false; known = [] }

  -- no hand: a pass that was handed in
  abbrev pub spent : View T
  spent = record { hands = []; sure = false; known = [] }

  abbrev pub more_put : Ticket T → Hand T → Hand T
  more_put x h = hand h.party h.rest (h.put ++ x ∷ []) h.taken

  abbrev pub more_taken : Ticket T → Hand T → Hand T
  more_taken x h = hand h.party h.rest h.put (h.taken ++ x ∷ [])

  -- the ticket was put
  abbrev pub with_put : View T → Ticket T → View T
  with_put v x = record { hands = map (more_put x) v.hands; sure = false; known = [] }

  -- the ticket was taken
  abbrev pub with_taken : View T → Ticket T → View T
  with_taken v x = record { hands = map (more_taken x) v.hands; sure = false; known = [] }

  -- it has no hand, and knows what the queue holds
  abbrev pub sure_of : List (Ticket T) → View T
  sure_of items = record { hands = []; sure = true; known = items }

  -- ---- the rule

  -- the parties that a hand stands for
  abbrev pub Covers : Hand T → ℕ → Type 0
  Covers h k = MatchBool h.rest (h.party ≤ k) (h.party ≡ k)

  -- What a hand says of its parties is so: of all that was put (`pushed`) theirs is what it says, and of what was taken theirs too.
  abbrev pub IsSo : List (ℕ × Ticket T) → List (Ticket T) → Hand T → Type 0
  IsSo order pushed h = (k : ℕ) → Covers h k → (put_by k pushed ≡ h.put) × (taken_by k order ≡ h.taken)

  -- what a look at the queue tells a pass: there is an order of taking, of which its hands are so, if the queue holds these items
  abbrev pub Learned : View T → List (Ticket T) → Type 0
  Learned v items = (order : List (ℕ × Ticket T)) × ((j : ℕ) (h : Hand T) → get_elem? v.hands j ≡ some h → IsSo order (tickets order ++ items) h)

  -- the hands of these parties are with pass p
  abbrev pub AreAtHome : (ℕ → ℕ) → ℕ → Hand T → Type 0
  AreAtHome homes p h = (k : ℕ) → Covers h k → homes k ≡ p

  -- it has the hands of all parties
  abbrev pub IsComplete : View T → Type 0
  IsComplete v = (k : ℕ) → (j : ℕ) × (h : Hand T) × (get_elem? v.hands j ≡ some h) × Covers h k

  -- no pass has a hand
  abbrev pub HasNoHand : List (View T) → Type 0
  HasNoHand views = (p j : ℕ) (v : View T) (h : Hand T) → get_elem? views p ≡ some v → get_elem? v.hands j ≡ some h → ⊥

  -- The first ticket that is left was taken out: all hands were so of it and the rest, and now the pass is sure of the rest.
  abbrev pub LeftFirst : View T → Ticket T → View T → Type 0
  LeftFirst v x w = (items : List (Ticket T)) × (w ≡ sure_of items) × Learned v (x ∷ items)

  -- the next one was taken out: it is the first of those that the pass was sure of
  abbrev pub LeftNext : View T → Ticket T → View T → Type 0
  LeftNext v x w = (items : List (Ticket T)) × (v.known ≡ x ∷ items) × (w ≡ sure_of items)

-- What the queue holds, and what each pass knows.
pub record Holds {T : Type 0} (items : List (Ticket T)) (views : List (View T)) : Type 0 where
  -- the order of taking
  pub order : List (ℕ × Ticket T)
  -- the pass that has the hand of each party: so no two passes have a hand of one party
  pub homes : ℕ → ℕ
  pub at_home : (p j : ℕ) (v : View T) (h : Hand T) → get_elem? views p ≡ some v → get_elem? v.hands j ≡ some h → AreAtHome homes p h
  -- what each hand says is so of the order and then the queue
  pub so : (p j : ℕ) (v : View T) (h : Hand T) → get_elem? views p ≡ some v → get_elem? v.hands j ≡ some h → IsSo order (tickets order ++ items) h
  -- If a pass is sure, it knows what the queue holds, and no pass has a hand. It has the home of party 0, so no other pass is sure.
  pub shut : (p : ℕ) (v : View T) → get_elem? views p ≡ some v → v.sure ≡ true → (items ≡ v.known) × HasNoHand views × (homes 0 ≡ p)

abbrev pub Kept : {T : Type 0} → List (Ticket T) → List (View T) → Type 0
Kept items views = Holds items views
