-- The passes of several parties, when they are made. The items may be of any type.
use Rattle.std.specs.Prelude.{◌≡◌, ℕ, ◌+◌, List, Option}
use mathlib.Core.Option.{some}
use lib.ListN.{get_elem?}
use Rattle.crossbeam_queue.specs.declared.array_queue.Doing.{Doing}
use Rattle.crossbeam_queue.specs.declared.array_queue.Slotted.{Slotted}
use Rattle.crossbeam_queue.specs.Passes.{IsPassOf, Pass, view}
use Rattle.ticket_queue.specs.declared.ticket.Ticket.{Ticket}
use Rattle.ticket_queue.specs.declared.ticket.View.{View}
use Rattle.ticket_queue.specs.Law.{none_yet}

-- pass k is one of this queue, of party `from + k`, which put and took nothing
abbrev pub AreDealt : {T Q A : Type 0} → Slotted (Option (Ticket T)) (Doing (Ticket T) (View T)) Q A → ℕ → List (Pass (Ticket T) (View T)) → Type 0
AreDealt {T} q from ps = (k : ℕ) (p : Pass (Ticket T) (View T)) → get_elem? ps k ≡ some p → IsPassOf q p × (view p ≡ none_yet (from + k))

abbrev pub AreNewFrom : {T : Type 0} → ℕ → List (Pass (Ticket T) (View T)) → Type 0
AreNewFrom {T} from ps = (k : ℕ) (p : Pass (Ticket T) (View T)) → get_elem? ps k ≡ some p → view p ≡ none_yet (from + k)
