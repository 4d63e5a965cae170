-- Jobs that are submitted one after another.
use Rattle.std.proofs.Common.{◌≡◌, ℕ, zero, suc, ◌+◌, ◌-◌, ◌<◌, ◌≤◌, List, [], ◌∷◌, ◌++◌, length, length-append, refl, sym, ◌∙◌, subst, ⊎_elim, arith}
use Rattle.std.proofs.lemmas.Bool.{cases_lt}
use mathlib.Core.Option.{some, some-injective, some-ne-none}
use lib.ListN.{get_elem?}
use Rattle.ticket_queue.specs.declared.ticket.Ticket.{Ticket}
use Rattle.ticket_queue.proofs.Places.{at_end}
use Rattle.bio_queue.specs.Lists.{AreSubmitted}

module _ {A : Type 0} where
  within : (xs : List A) (i : ℕ) (x : A) → get_elem? xs i ≡ some x → i < length xs
  within [] i x e = absurd (some-ne-none x (sym e))
  within (y ∷ ys) zero x e = omega arith
  within (y ∷ ys) (suc i) x e = let h = within ys i x e in omega (arith, h)

  there : (xs : List A) (i : ℕ) → i < length xs → (x : A) × (get_elem? xs i ≡ some x)
  there [] i h = absurd (omega (arith, h))
  there (y ∷ ys) zero h = (y, refl)
  there (y ∷ ys) (suc i) h = there ys i (omega (arith, h))

  in_front : (xs : List A) (x : A) (n : ℕ) (y : A) → get_elem? xs n ≡ some y → get_elem? (xs ++ x ∷ []) n ≡ some y
  in_front [] x n y e = absurd (some-ne-none y (sym e))
  in_front (z ∷ zs) x zero y e = e
  in_front (z ∷ zs) x (suc n) y e = in_front zs x n y e

  at_same : (xs : List A) (i j : ℕ) (x : A) → i ≡ j → get_elem? xs i ≡ some x → get_elem? xs j ≡ some x
  at_same xs i j x is e = subst (λ (k : ℕ). get_elem? xs k ≡ some x) is e

  one_there : (xs : List A) (i : ℕ) (x y : A) → get_elem? xs i ≡ some x → get_elem? xs i ≡ some y → x ≡ y
  one_there xs i x y e f = some-injective x y (sym e ∙ f)

module _ {T J : Type 0} {R : T → J → Type 0} where
  -- nothing was submitted
  none_here : (before : List (Ticket T)) (jobs : List J) → AreSubmitted before before jobs jobs R
  none_here before jobs = record {
    sum = refl;
    fewer = omega arith;
    kept = λ n t e. e;
    same = λ i j e. e;
    each = λ n i t j is e f. let h = within before (length before + n) t e in absurd (omega (arith, h));
  }

  pub none_submitted : (before after : List (Ticket T)) (jobs left : List J) → after ≡ before → left ≡ jobs → AreSubmitted before after jobs left R
  none_submitted before after jobs left same kept =
      subst (λ (l : List J). AreSubmitted before after jobs l R) (sym kept)
      (subst (λ (a : List (Ticket T)). AreSubmitted before a jobs jobs R) (sym same) (none_here before jobs))

  -- the last job was submitted
  one_here : (before : List (Ticket T)) (left : List J) (t : Ticket T) (j : J) → R t.item j → AreSubmitted before (before ++ t ∷ []) (left ++ j ∷ []) left R
  one_here before left t j r = record {
    sum = omega (arith, length-append before (t ∷ []), length-append left (j ∷ []));
    fewer = omega (arith, length-append left (j ∷ []));
    kept = λ n u e. in_front before t n u e;
    same = λ i k e. in_front left j i k e;
    each = λ n i u k is e f. ⊎_elim
        (λ (s : get_elem? before (length before + n) ≡ some u). let h = within before (length before + n) u s in absurd (omega (arith, h)))
        (λ (s : (length before + n ≡ length before) × (t ≡ u)). ⊎_elim
        (λ (q : get_elem? left i ≡ some k). let h = within left i k q in let a = s.0 in absurd (omega (arith, h, a, is, length-append left (j ∷ []))))
        (λ (q : (i ≡ length left) × (j ≡ k)). subst (λ (y : Ticket T × J). R y.0.item y.1) (λ m. (s.1 m, q.1 m)) r)
        (at_end left j k i f))
        (at_end before t u (length before + n) e);
  }

  pub one_submitted : (before after : List (Ticket T)) (jobs left : List J) (t : Ticket T) (j : J) → after ≡ before ++ t ∷ [] → jobs ≡ left ++ j ∷ [] → R t.item j → AreSubmitted before after jobs left R
  one_submitted before after jobs left t j grown was r =
      subst (λ (l : List J). AreSubmitted before after l left R) (sym was)
      (subst (λ (a : List (Ticket T)). AreSubmitted before a (left ++ j ∷ []) left R) (sym grown) (one_here before left t j r))

  pub submitted_begins : (before : List (Ticket T)) (jobs : List J) → AreSubmitted before before jobs jobs R
  submitted_begins before jobs = none_here before jobs

  pub submitted_goes_on : (a b c : List (Ticket T)) (js ks ls : List J) → AreSubmitted a b js ks R → AreSubmitted b c ks ls R → AreSubmitted a c js ls R
  submitted_goes_on a b c js ks ls one two = record {
    sum = (let x = one.sum in let y = two.sum in omega (arith, x, y));
    fewer = (let x = one.fewer in let y = two.fewer in omega (arith, x, y));
    kept = λ n t e. two.kept n t (one.kept n t e);
    same = λ i j e. one.same i j (two.same i j e);
    each = λ n i t j is e f. ⊎_elim
        (λ (h : length a + n < length b).
        let u = there b (length a + n) h in
        subst (λ (y : Ticket T). R y.item j) (one_there c (length a + n) u.0 t (two.kept (length a + n) u.0 u.1) e) (one.each n i u.0 j is u.1 f))
        (λ (h : length b ≤ length a + n).
        let x = one.sum in
        let v = there ks i (omega (arith, h, x, is)) in
        let m : ℕ = (length a + n) - length b in
        let far : length a + n ≡ length b + m = omega (arith, h) in
        subst (λ (y : J). R t.item y) (one_there js i v.0 j (one.same i v.0 v.1) f)
        (two.each m i t v.0 (omega (arith, h, x, is, far)) (at_same c (length a + n) (length b + m) t far e) v.1))
        (cases_lt (length a + n) (length b));
  }
