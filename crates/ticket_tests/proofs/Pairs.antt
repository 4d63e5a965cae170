-- The passes of two parties, out of their list.
use Rattle.std.proofs.Common.{◌≡◌, List, [], ◌∷◌, ◌++◌, length, length-append, map, refl, ap, ◌∙◌, subst, arith}
use Rattle.std.specs.Prelude.{All}
use Rattle.crossbeam_queue.specs.Passes.{Pass, view}
use Rattle.ticket_queue.specs.declared.ticket.Ticket.{Ticket}
use Rattle.ticket_queue.specs.declared.ticket.View.{View}
use Rattle.ticket_queue.specs.Law.{IsHandOf}
use Rattle.ticket_queue.specs.Parties.{AreNew}

abbrev TicketPass : Type 0 → Type 0
TicketPass T = Pass (Ticket T) (View T)

module _ {T : Type 0} where
  pub two_of : (ps more none : List (TicketPass T)) (first second : TicketPass T) → length ps ≡ 2 → ps ≡ more ++ second ∷ [] → more ≡ none ++ first ∷ [] → ps ≡ first ∷ second ∷ []
  two_of ps more [] first second count last next = last ∙ ap (λ l. l ++ second ∷ []) next
  two_of ps more (p ∷ rest) first second count last next =
      let a = length-append more (second ∷ []) in
      let b = length-append (p ∷ rest) (first ∷ []) in
      absurd (omega (arith, count, ap length last, ap length next, a, b))

  pub both : (Q : TicketPass T → Type 0) (ps : List (TicketPass T)) (first second : TicketPass T) → ps ≡ first ∷ second ∷ [] → All Q ps → Q first × Q second
  both Q ps first second is all = let each = subst (All Q) is all in (each 0 first (omega arith), each 1 second (omega arith))

  pub hands : (ps : List (TicketPass T)) (first second : TicketPass T) → ps ≡ first ∷ second ∷ [] → AreNew (map view ps) → IsHandOf 0 (view first) × IsHandOf 1 (view second)
  hands ps first second is new = let each = subst (λ qs. AreNew (map view qs)) is new in (([], [], each 0 (view first) refl), ([], [], each 1 (view second) refl))
