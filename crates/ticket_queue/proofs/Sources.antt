-- Each ticket that was taken, or is left, was put by its party.
use Rattle.std.proofs.Common.{◌≡◌, ℕ, zero, suc, ◌+◌, Bool, true, false, cond, List, [], ◌∷◌, ◌++◌, length, sym, refl, ap, ◌∙◌, eq-eqb}
use Rattle.std.specs.Prelude.{filter, ◌==◌}
use mathlib.Core.Option.{some, some-injective, some-ne-none}
use lib.ListN.{get_elem?}
use Rattle.crossbeam_queue.proofs.Lists.{at_map, at_longer}
use Rattle.ticket_queue.specs.declared.ticket.Ticket.{Ticket}
use Rattle.ticket_queue.specs.declared.ticket.View.{View}
use Rattle.ticket_queue.specs.Law.{put_by, tickets, taken_by}
use Rattle.ticket_queue.specs.Parties.{IsOrder}
use Rattle.ticket_queue.specs.Account.{put_at, taken_at, IsOnlyWhatWasPut}
use Rattle.ticket_queue.proofs.Places.{of_map}
use Rattle.ticket_queue.proofs.Counting.{of_filter, puts_at, takes_at, behind}

in_filter : {A : Type 0} (p : A → Bool) (xs : List A) (j : ℕ) (x : A) → get_elem? xs j ≡ some x → p x ≡ true → (i : ℕ) × (get_elem? (filter p xs) i ≡ some x)
in_filter p [] j x e is = absurd (some-ne-none x (sym e))
in_filter p (y ∷ ys) zero x e is = (0, ap (λ (b : Bool). get_elem? (cond b (y ∷ filter p ys) (filter p ys)) 0) (ap p (some-injective y x e) ∙ is) ∙ e)
in_filter {A} p (y ∷ ys) (suc j) x e is = by (p y) (in_filter p ys j x e is)
  where
    by : (b : Bool) → (i : ℕ) × (get_elem? (filter p ys) i ≡ some x) → (i : ℕ) × (get_elem? (cond b (y ∷ filter p ys) (filter p ys)) i ≡ some x)
    by true r = (suc r.0, r.1)
    by false r = r

module _ {T : Type 0} (vs : List (View T)) (left : List (Ticket T)) (o : IsOrder vs left) where
  of_pushed : (j : ℕ) (t : Ticket T) → get_elem? (tickets o.order ++ left) j ≡ some t → (i : ℕ) × (get_elem? (put_at vs t.party) i ≡ some t)
  of_pushed j t e =
      let r = in_filter (λ (x : Ticket T). x.party == t.party) (tickets o.order ++ left) j t e (eq-eqb t.party t.party refl) in
      let is : put_by t.party (tickets o.order ++ left) ≡ put_at vs t.party = puts_at (λ s. put_by s (tickets o.order ++ left)) vs o.puts (λ k le. (o.no_other k le).0) t.party in
      (r.0, ap (λ l. get_elem? l r.0) (sym is) ∙ r.1)

  of_taken : (k i : ℕ) (t : Ticket T) → get_elem? (taken_at vs k) i ≡ some t → (j : ℕ) × (get_elem? (put_at vs t.party) j ≡ some t)
  of_taken k i t e =
      let is : taken_by k o.order ≡ taken_at vs k = takes_at (λ z. taken_by z o.order) vs o.takes (λ z le. (o.no_other z le).1) k in
      let m = of_map (λ (d : ℕ × Ticket T). d.1) (filter (λ (d : ℕ × Ticket T). d.0 == k) o.order) i t (ap (λ l. get_elem? l i) is ∙ e) in
      let f = of_filter (λ (d : ℕ × Ticket T). d.0 == k) o.order i m.0 m.1 in
      of_pushed f.0 t (at_longer (tickets o.order) left f.0 t (at_map (λ (d : ℕ × Ticket T). d.1) o.order f.0 m.0 f.1 ∙ ap some m.2))

  pub of_puts : IsOnlyWhatWasPut vs left
  of_puts = record {
    taken = of_taken;
    remaining = λ i t e. of_pushed (length (tickets o.order) + i) t (behind (tickets o.order) left i t e);
  }
