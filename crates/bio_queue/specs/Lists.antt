-- Lists of items of any type that changed.
use Rattle.std.specs.Prelude.{◌≡◌, ◌<◌, ◌≤◌, ℕ, ◌+◌, List, length, get_or}
use mathlib.Core.Option.{some}
use lib.ListN.{get_elem?}
use Rattle.ticket_queue.specs.declared.ticket.Ticket.{Ticket}

-- each became what R says
pub record AreChanged {T : Type 0} (xs ys : List T) (R : T → T → Type 0) : Type 0 where
  pub count : length ys ≡ length xs
  pub each : (i : ℕ) (d : T) → i < length xs → R (get_or xs i d) (get_or ys i d)

-- Some jobs were submitted, from the end of the list, and the others are left. What was put before is still there; and behind it stand the
-- tickets of these jobs, in the order in which they were submitted, each as R says.
pub record AreSubmitted {T J : Type 0} (before after : List (Ticket T)) (jobs left : List J) (R : T → J → Type 0) : Type 0 where
  pub sum : length after + length left ≡ length before + length jobs
  pub fewer : length left ≤ length jobs
  pub kept : (n : ℕ) (t : Ticket T) → get_elem? before n ≡ some t → get_elem? after n ≡ some t
  pub same : (i : ℕ) (j : J) → get_elem? left i ≡ some j → get_elem? jobs i ≡ some j
  pub each : (n i : ℕ) (t : Ticket T) (j : J) → n + i + 1 ≡ length jobs → get_elem? after (length before + n) ≡ some t → get_elem? jobs i ≡ some j → R t.item j
