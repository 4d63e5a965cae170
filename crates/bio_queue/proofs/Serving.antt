-- A worker's turn: what it took, and what it completed.
use Rattle.std.proofs.Common.{◌≡◌, ℕ, zero, suc, ◌<◌, List, [], ◌∷◌, ◌++◌, length, length-append, Option, Some, None, refl, sym, ap, ◌∙◌, subst, ⊎_elim, arith}
use Rattle.std.specs.Prelude.{option_to_list}
use mathlib.Core.Option.{some, some-ne-none}
use lib.ListN.{get_elem?}
use Rattle.ticket_queue.specs.declared.ticket.Ticket.{Ticket}
use Rattle.ticket_queue.proofs.Places.{at_end}
use Rattle.bio_queue.specs.declared.bio.OneTurn.{OneTurn}
use Rattle.bio_queue.specs.declared.bio.OneTurn.TheVariants as turn
use Rattle.bio_queue.specs.Served.{IsDone, IsFit}

pub by_turn : {X : Type 0} → (r : OneTurn) → (r ≡ turn.Served → X) → (r ≡ turn.Empty → X) → (r ≡ turn.Off → X) → X
by_turn turn.Served s e o = s refl
by_turn turn.Empty s e o = e refl
by_turn turn.Off s e o = o refl

no_some : {A : Type 0} {x : A} → None ≡ Some x → ⊥
no_some e = cc

in_some : {A : Type 0} {x y : A} → Some x ≡ Some y → x ≡ y
in_some e = cc

module _ {A : Type 0} where
  within : (xs : List A) (i : ℕ) (x : A) → get_elem? xs i ≡ some x → i < length xs
  within [] i x e = absurd (some-ne-none x (sym e))
  within (y ∷ ys) zero x e = omega arith
  within (y ∷ ys) (suc i) x e = let h = within ys i x e in omega (arith, h)

  in_front : (xs : List A) (x : A) (n : ℕ) (y : A) → get_elem? xs n ≡ some y → get_elem? (xs ++ x ∷ []) n ≡ some y
  in_front [] x n y e = absurd (some-ne-none y (sym e))
  in_front (z ∷ zs) x zero y e = e
  in_front (z ∷ zs) x (suc n) y e = in_front zs x n y e

  at_last : (xs : List A) (x : A) → get_elem? (xs ++ x ∷ []) (length xs) ≡ some x
  at_last [] x = refl
  at_last (z ∷ zs) x = at_last zs x

module _ {T : Type 0} {P : T → Type 0} where
  fit_front : (ts ts' : List (Ticket T)) (t : Ticket T) → ts' ≡ ts ++ t ∷ [] → IsFit ts' P → IsFit ts P
  fit_front ts ts' t is fit = record { each = λ n u e. fit.each n u (ap (λ l. get_elem? l n) is ∙ in_front ts t n u e) }

  -- what was taken last fits
  pub last_fits : (ts ts' : List (Ticket T)) (t : Ticket T) → ts' ≡ ts ++ t ∷ [] → IsFit ts' P → P t.item
  last_fits ts ts' t is fit = fit.each (length ts) t (ap (λ l. get_elem? l (length ts)) is ∙ at_last ts t)

module _ {T C : Type 0} {P : T → Type 0} {R : T → C → Type 0} where
  -- nothing was taken
  pub same_done : (ts ts' : List (Ticket T)) (cs : List C) (cut : Option T) → ts' ≡ ts → (IsFit ts P → IsDone ts cs cut R) → IsFit ts' P → IsDone ts' cs cut R
  same_done ts ts' cs cut is old = subst (λ (us : List (Ticket T)). IsFit us P → IsDone us cs cut R) (sym is) old

  -- one was taken and completed
  pub more_done : (ts ts' : List (Ticket T)) (cs cs' : List C) (cut cut' : Option T) (t : Ticket T) (c : C) → ts' ≡ ts ++ t ∷ [] → cs' ≡ cs ++ c ∷ [] → cut ≡ None → cut' ≡ None → R t.item c
      → (IsFit ts P → IsDone ts cs cut R) → IsFit ts' P → IsDone ts' cs' cut' R
  more_done ts ts' cs cs' cut cut' t c is is' none none' mine old fit =
      let had = old (fit_front ts ts' t is fit) in
      let count : length ts ≡ length cs = (let a = ap (λ o. length (option_to_list o)) none in let b = had.count in omega (arith, a, b)) in
      record {
        count = (let a = ap (λ o. length (option_to_list o)) none' in omega (arith, a, ap length is, ap length is', length-append ts (t ∷ []), length-append cs (c ∷ []), count));
        each = λ n u d e e'. ⊎_elim
            (λ (s : get_elem? ts n ≡ some u). ⊎_elim
            (λ (r : get_elem? cs n ≡ some d). had.each n u d s r)
            (λ (r : (n ≡ length cs) × (c ≡ d)). let h = within ts n u s in absurd (omega (arith, h, r.0, count)))
            (at_end cs c d n (ap (λ l. get_elem? l n) (sym is') ∙ e')))
            (λ (s : (n ≡ length ts) × (t ≡ u)). ⊎_elim
            (λ (r : get_elem? cs n ≡ some d). let h = within cs n d r in absurd (omega (arith, h, s.0, count)))
            (λ (r : (n ≡ length cs) × (c ≡ d)). subst (λ (y : Ticket T × C). R y.0.item y.1) (λ i. (s.1 i, r.1 i)) mine)
            (at_end cs c d n (ap (λ l. get_elem? l n) (sym is') ∙ e')))
            (at_end ts t u n (ap (λ l. get_elem? l n) (sym is) ∙ e));
        last = λ b e. absurd (no_some (sym none' ∙ e));
      }

  -- one was taken, and power is off
  pub off_done : (ts ts' : List (Ticket T)) (cs cs' : List C) (cut cut' : Option T) (t : Ticket T) → ts' ≡ ts ++ t ∷ [] → cs' ≡ cs → cut ≡ None → cut' ≡ Some t.item
      → (IsFit ts P → IsDone ts cs cut R) → IsFit ts' P → IsDone ts' cs' cut' R
  off_done ts ts' cs cs' cut cut' t is same none one old fit =
      let had = old (fit_front ts ts' t is fit) in
      let count : length ts ≡ length cs = (let a = ap (λ o. length (option_to_list o)) none in let b = had.count in omega (arith, a, b)) in
      let first : IsDone ts' cs cut' R = record {
        count = (let a = ap (λ o. length (option_to_list o)) one in omega (arith, a, ap length is, length-append ts (t ∷ []), count));
        each = λ n u d e e'. ⊎_elim
            (λ (s : get_elem? ts n ≡ some u). had.each n u d s e')
            (λ (s : (n ≡ length ts) × (t ≡ u)). let h = within cs n d e' in absurd (omega (arith, h, s.0, count)))
            (at_end ts t u n (ap (λ l. get_elem? l n) (sym is) ∙ e));
        last = λ b e. (t, ap (λ (n : ℕ). get_elem? ts' n) (sym count) ∙ (ap (λ l. get_elem? l (length ts)) is ∙ at_last ts t), in_some (sym one ∙ e));
      } in
      subst (λ ds. IsDone ts' ds cut' R) (sym same) first
