-- The passes of all parties, in order.
use Rattle.std.specs.Prelude.{◌≡◌, ℕ, ◌≤◌, List, [], ◌∷◌, ◌++◌, length}
use mathlib.Core.Option.{some}
use lib.ListN.{get_elem?}
use Rattle.ticket_queue.specs.declared.ticket.Ticket.{Ticket}
use Rattle.ticket_queue.specs.declared.ticket.Hand.{Hand}
use Rattle.ticket_queue.specs.declared.ticket.View.{View}
use Rattle.ticket_queue.specs.Law.{put_by, tickets, taken_by, none_yet, IsHandOf}

module _ {T : Type 0} where
  abbrev pub put_first : List (Hand T) → List (Ticket T)
  put_first [] = []
  put_first (h ∷ hs) = h.put

  abbrev pub taken_first : List (Hand T) → List (Ticket T)
  taken_first [] = []
  taken_first (h ∷ hs) = h.taken

  -- what a party's pass has put
  abbrev pub put_in : View T → List (Ticket T)
  put_in v = put_first v.hands

  -- and what it has taken
  abbrev pub taken_in : View T → List (Ticket T)
  taken_in v = taken_first v.hands

  -- pass k has the hand of party k
  abbrev pub AreHands : List (View T) → Type 0
  AreHands vs = (k : ℕ) (v : View T) → get_elem? vs k ≡ some v → IsHandOf k v

  -- pass k is that of party k, which put and took nothing
  abbrev pub AreNew : List (View T) → Type 0
  AreNew vs = (k : ℕ) (v : View T) → get_elem? vs k ≡ some v → v ≡ none_yet k

  -- the hands of these passes
  abbrev pub hands_of : List (View T) → List (Hand T)
  hands_of [] = []
  hands_of (v ∷ vs) = v.hands ++ hands_of vs

-- What passes know when the queue is closed, pass k of party k, and these tickets are left.
pub record IsOrder {T : Type 0} (vs : List (View T)) (left : List (Ticket T)) : Type 0 where
  -- the order in which tickets were taken, each with the party that took it
  pub order : List (ℕ × Ticket T)
  -- the tickets of party k in this order, and then among those that are left, are what it put, in order
  pub puts : (k : ℕ) (v : View T) → get_elem? vs k ≡ some v → put_by k (tickets order ++ left) ≡ put_in v
  -- what party k took in this order is what it knows, in order
  pub takes : (k : ℕ) (v : View T) → get_elem? vs k ≡ some v → taken_by k order ≡ taken_in v
  -- and there is nothing of any other party
  pub no_other : (k : ℕ) → length vs ≤ k → (put_by k (tickets order ++ left) ≡ []) × (taken_by k order ≡ [])
