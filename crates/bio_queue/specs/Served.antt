-- What was submitted, what a worker took, and what it completed. The items may be of any type: a type that holds a callback isn't named here.
use Rattle.std.specs.Prelude.{◌≡◌, ℕ, ◌+◌, List, length, Option, Some, option_to_list, true}
use mathlib.Core.Option.{some}
use lib.ListN.{get_elem?}
use Rattle.ticket_queue.specs.declared.ticket.Ticket.{Ticket}
use Rattle.ticket_queue.specs.declared.ticket.View.{View}
use Rattle.ticket_queue.specs.Account.{IsAccount}
use Rattle.bio_queue.specs.declared.op.Op.{Op}
use Rattle.bio_queue.specs.declared.bio.Completed.{Completed}
use Rattle.bio_queue.specs.Ops.{fits, kind_of}

module _ {T : Type 0} where
  -- the n-th of these tickets is this submitter's, with number n
  abbrev pub AreNumbered : List (Ticket T) → ℕ → (T → ℕ) → (T → ℕ) → Type 0
  AreNumbered ts submitter by number = (n : ℕ) (t : Ticket T) → get_elem? ts n ≡ some t → (by t.item ≡ submitter) × (number t.item ≡ n)

  abbrev pub AllFit : List (Ticket T) → (T → Type 0) → Type 0
  AllFit ts fit = (n : ℕ) (t : Ticket T) → get_elem? ts n ≡ some t → fit t.item

-- all of these fit
pub record IsFit {T : Type 0} (ts : List (Ticket T)) (P : T → Type 0) : Type 0 where
  pub each : (n : ℕ) (t : Ticket T) → get_elem? ts n ≡ some t → P t.item

-- Of the tickets that a worker took, in order: the first ones are completed, each as R says; and then there is the one that power cut, if it
-- did.
pub record IsDone {T C : Type 0} (ts : List (Ticket T)) (cs : List C) (cut : Option T) (R : T → C → Type 0) : Type 0 where
  pub count : length ts ≡ length cs + length (option_to_list cut)
  pub each : (n : ℕ) (t : Ticket T) (c : C) → get_elem? ts n ≡ some t → get_elem? cs n ≡ some c → R t.item c
  pub last : (b : T) → cut ≡ Some b → (t : Ticket T) × (get_elem? ts (length cs) ≡ some t) × (t.item ≡ b)

-- the operation of this submitter with this number was completed by a worker, with a reply that fits
pub record IsCompletedOf (submitter number : ℕ) (op : Op) (worker : ℕ) (c : Completed) : Type 0 where
  pub submitter_is : c.submitter ≡ submitter
  pub number_is : c.number ≡ number
  pub op_is : c.op ≡ op
  pub worker_is : c.worker ≡ worker
  pub fitting : fits (kind_of op) c.reply ≡ true

-- the account of numbers, with the views first: so the type of the items is known where the number is named
abbrev pub IsAccountOf : {T : Type 0} → List (View T) → List (Ticket T) → (T → ℕ) → Type 0
IsAccountOf vs left number = IsAccount number vs left
