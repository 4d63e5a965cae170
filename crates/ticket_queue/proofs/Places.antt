-- Elements of lists, by their place, and what one party put or took.
use Rattle.std.proofs.Common.{◌≡◌, ◌≢◌, ℕ, zero, suc, ◌⊎◌, Bool, cond, List, [], ◌∷◌, ◌++◌, length, map, set, sym, refl, ap, ◌∙◌, subst, inl, inr, ⊎_elim, append-nil, eq-eqb, ne_eqb}
use Rattle.std.specs.Prelude.{filter, ◌==◌}
use mathlib.Core.Option.{some, some-injective, some-ne-none}
use mathlib.Core.List.{map-append}
use lib.ListN.{get_elem?}
use Rattle.std.proofs.lemmas.List.Elements.{filter-append}
use Rattle.crossbeam_queue.proofs.Lists.{at_set}
use Rattle.ticket_queue.specs.declared.ticket.Ticket.{Ticket}
use Rattle.ticket_queue.specs.declared.ticket.Hand.{Hand}
use Rattle.ticket_queue.specs.declared.ticket.View.{View}
use Rattle.ticket_queue.specs.Law.{put_by, tickets, taken_by, one}

module _ {A : Type 0} where
  pub only : (a b : A) (j : ℕ) → get_elem? (a ∷ []) j ≡ some b → a ≡ b
  only a b zero e = some-injective a b e
  only a b (suc j) e = absurd (some-ne-none b (sym e))

  pub at_end : (l : List A) (a b : A) (j : ℕ) → get_elem? (l ++ a ∷ []) j ≡ some b → (get_elem? l j ≡ some b) ⊎ ((j ≡ length l) × (a ≡ b))
  at_end [] a b zero e = inr (refl, some-injective a b e)
  at_end [] a b (suc j) e = absurd (some-ne-none b (sym e))
  at_end (x ∷ xs) a b zero e = inl e
  at_end (x ∷ xs) a b (suc j) e = ⊎_elim inl (λ (s : (j ≡ length xs) × (a ≡ b)). inr (ap suc s.0, s.1)) (at_end xs a b j e)

  pub at_append : (xs ys : List A) (j : ℕ) (b : A) → get_elem? (xs ++ ys) j ≡ some b → (get_elem? xs j ≡ some b) ⊎ ((i : ℕ) × (get_elem? ys i ≡ some b))
  at_append [] ys j b e = inr (j, e)
  at_append (x ∷ xs) ys zero b e = inl e
  at_append (x ∷ xs) ys (suc j) b e = at_append xs ys j b e

pub of_map : {A B : Type 0} (f : A → B) (xs : List A) (k : ℕ) (v : B) → get_elem? (map f xs) k ≡ some v → (a : A) × (get_elem? xs k ≡ some a) × (f a ≡ v)
of_map f [] k v e = absurd (some-ne-none v (sym e))
of_map f (x ∷ xs) zero v e = (x, refl, some-injective (f x) v e)
of_map f (x ∷ xs) (suc k) v e = of_map f xs k v e

module _ {T : Type 0} where
  -- a fact of each hand, with the number of its pass: one pass has another hand
  pub changed : (F : ℕ → Hand T → Type 0) (views : List (View T)) (p : ℕ) (g : Hand T) → F p g
      → ((q j : ℕ) (v : View T) (h : Hand T) → q ≢ p → get_elem? views q ≡ some v → get_elem? v.hands j ≡ some h → F q h)
      → (q j : ℕ) (v : View T) (h : Hand T) → get_elem? (set views p (one g)) q ≡ some v → get_elem? v.hands j ≡ some h → F q h
  changed F views p g mine others q j v h e here = ⊎_elim
      (λ (s : (q ≡ p) × (one g ≡ v)).
      let is : g ≡ h = only g h j (subst (λ (u : View T). get_elem? u.hands j ≡ some h) (sym s.1) here) in
      subst (λ (y : ℕ × Hand T). F y.0 y.1) (λ i. (sym s.0 i, is i)) mine)
      (λ (s : (q ≢ p) × (get_elem? views q ≡ some v)). others q j v h s.0 s.1 here)
      (at_set views p q (one g) v e)

  -- a pass is added
  pub added : (F : ℕ → Hand T → Type 0) (views : List (View T)) (g : Hand T) → F (length views) g
      → ((q j : ℕ) (v : View T) (h : Hand T) → get_elem? views q ≡ some v → get_elem? v.hands j ≡ some h → F q h)
      → (q j : ℕ) (v : View T) (h : Hand T) → get_elem? (views ++ one g ∷ []) q ≡ some v → get_elem? v.hands j ≡ some h → F q h
  added F views g new others q j v h e here = ⊎_elim
      (λ (s : get_elem? views q ≡ some v). others q j v h s here)
      (λ (s : (q ≡ length views) × (one g ≡ v)).
      let is : g ≡ h = only g h j (subst (λ (u : View T). get_elem? u.hands j ≡ some h) (sym s.1) here) in
      subst (λ (y : ℕ × Hand T). F y.0 y.1) (λ i. (sym s.0 i, is i)) new)
      (at_end views (one g) v q e)

  -- ---- one more ticket

  pub own_put : (l : List (Ticket T)) (x : Ticket T) → put_by x.party (l ++ x ∷ []) ≡ put_by x.party l ++ x ∷ []
  own_put l x = filter-append (λ (t : Ticket T). t.party == x.party) l (x ∷ []) ∙ ap (λ (b : Bool). put_by x.party l ++ cond b (x ∷ []) []) (eq-eqb x.party x.party refl)

  pub other_put : (l : List (Ticket T)) (x : Ticket T) (q : ℕ) → x.party ≢ q → put_by q (l ++ x ∷ []) ≡ put_by q l
  other_put l x q ne = filter-append (λ (t : Ticket T). t.party == q) l (x ∷ []) ∙ (ap (λ (b : Bool). put_by q l ++ cond b (x ∷ []) []) (ne_eqb x.party q ne) ∙ append-nil (put_by q l))

  pub own_taken : (es : List (ℕ × Ticket T)) (k : ℕ) (x : Ticket T) → taken_by k (es ++ (k, x) ∷ []) ≡ taken_by k es ++ x ∷ []
  own_taken es k x =
      ap tickets (filter-append (λ (e : ℕ × Ticket T). e.0 == k) es ((k, x) ∷ []) ∙ ap (λ (b : Bool). filter (λ (e : ℕ × Ticket T). e.0 == k) es ++ cond b ((k, x) ∷ []) []) (eq-eqb k k refl))
      ∙ map-append (λ (e : ℕ × Ticket T). e.1) (filter (λ (e : ℕ × Ticket T). e.0 == k) es) ((k, x) ∷ [])

  pub other_taken : (es : List (ℕ × Ticket T)) (k q : ℕ) (x : Ticket T) → k ≢ q → taken_by q (es ++ (k, x) ∷ []) ≡ taken_by q es
  other_taken es k q x ne =
      ap tickets (filter-append (λ (e : ℕ × Ticket T). e.0 == q) es ((k, x) ∷ [])
      ∙ (ap (λ (b : Bool). filter (λ (e : ℕ × Ticket T). e.0 == q) es ++ cond b ((k, x) ∷ []) []) (ne_eqb k q ne) ∙ append-nil (filter (λ (e : ℕ × Ticket T). e.0 == q) es)))
