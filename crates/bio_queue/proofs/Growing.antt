-- Lists of tickets that grow by one.
use Rattle.std.proofs.Common.{◌≡◌, ℕ, List, [], ◌∷◌, ◌++◌, length, sym, ap, ◌∙◌, subst, ⊎_elim}
use mathlib.Core.Option.{some}
use lib.ListN.{get_elem?}
use Rattle.ticket_queue.specs.declared.ticket.Ticket.{Ticket}
use Rattle.ticket_queue.proofs.Places.{at_end}
use Rattle.bio_queue.specs.Served.{AllFit, AreNumbered}

module _ {T : Type 0} where
  abbrev pub ticket_of : ℕ → T → Ticket T
  ticket_of party item = record { party = party; item = item }

  pub numbered_push : (ts ts' : List (Ticket T)) (party : ℕ) (by number : T → ℕ) (x : Ticket T) → ts' ≡ ts ++ x ∷ [] → AreNumbered ts party by number → by x.item ≡ party → number x.item ≡ length ts → AreNumbered ts' party by number
  numbered_push ts ts' party by number x is old mine next n t e = ⊎_elim
      (λ (s : get_elem? ts n ≡ some t). old n t s)
      (λ (s : (n ≡ length ts) × (x ≡ t)). (ap (λ (y : Ticket T). by y.item) (sym s.1) ∙ mine, ap (λ (y : Ticket T). number y.item) (sym s.1) ∙ (next ∙ sym s.0)))
      (at_end ts x t n (ap (λ l. get_elem? l n) (sym is) ∙ e))

  pub fit_push : (ts ts' : List (Ticket T)) (P : T → Type 0) (x : Ticket T) → ts' ≡ ts ++ x ∷ [] → AllFit ts P → P x.item → AllFit ts' P
  fit_push ts ts' P x is old mine n t e = ⊎_elim
      (λ (s : get_elem? ts n ≡ some t). old n t s)
      (λ (s : (n ≡ length ts) × (x ≡ t)). subst (λ (y : Ticket T). P y.item) s.1 mine)
      (at_end ts x t n (ap (λ l. get_elem? l n) (sym is) ∙ e))
