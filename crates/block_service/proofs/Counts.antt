-- Counting in rows, and lists that go along.
use Rattle.std.proofs.Common.{◌≡◌, ℕ, zero, suc, ◌+◌, ◌<◌, ◌≤◌, Bool, true, false, cond, List, [], ◌∷◌, ◌++◌, length, map, sym, refl, ap, ◌∙◌, subst, arith}
use Rattle.std.specs.Prelude.{filter}
use mathlib.Core.Option.{some, some-injective, some-ne-none}
use lib.ListN.{get_elem?}
use Rattle.ticket_queue.specs.declared.ticket.Ticket.{Ticket}
use Rattle.ticket_queue.specs.declared.ticket.View.{View}
use Rattle.ticket_queue.specs.Account.{one_if, times, total, Rises, taken_at}
use Rattle.ticket_queue.specs.Parties.{taken_in}

abbrev pub sum_over : {A : Type 0} → (A → ℕ) → List A → ℕ
sum_over f [] = 0
sum_over f (x ∷ xs) = f x + sum_over f xs

module _ {A : Type 0} where
  pub sum_append : (f : A → ℕ) (xs ys : List A) → sum_over f (xs ++ ys) ≡ sum_over f xs + sum_over f ys
  sum_append f [] ys = omega arith
  sum_append f (x ∷ xs) ys = let h = sum_append f xs ys in omega (arith, h)

  pub sum_none : (f : A → ℕ) (xs : List A) → ((x : A) → f x ≡ 0) → sum_over f xs ≡ 0
  sum_none f [] none = refl
  sum_none f (x ∷ xs) none = let h = sum_none f xs none in let first = none x in omega (arith, h, first)

  pub sum_same : (f g : A → ℕ) (xs : List A) → ((k : ℕ) (x : A) → get_elem? xs k ≡ some x → f x ≡ g x) → sum_over f xs ≡ sum_over g xs
  sum_same f g [] is = refl
  sum_same f g (x ∷ xs) is = let h = sum_same f g xs (λ k y e. is (suc k) y e) in let first = is 0 x refl in omega (arith, h, first)

  pub none_in : (p : A → Bool) (xs : List A) → length xs ≡ 0 → times p xs ≡ 0
  none_in p [] none = refl
  none_in p (x ∷ xs) none = absurd (omega (arith, none))

pub sum_map : {A B : Type 0} (f : B → ℕ) (g : A → B) (xs : List A) → sum_over f (map g xs) ≡ sum_over (λ x. f (g x)) xs
sum_map f g [] = refl
sum_map f g (x ∷ xs) = let h = sum_map f g xs in omega (arith, h)

total_front : (f : ℕ → ℕ) (n : ℕ) → total f (suc n) ≡ f 0 + total (λ k. f (suc k)) n
total_front f zero = omega arith
total_front f (suc n) = let h = total_front f n in omega (arith, h)

-- what all parties took, one after another
pub total_is : {T : Type 0} (p : Ticket T → Bool) (vs : List (View T)) → total (λ k. times p (taken_at vs k)) (length vs) ≡ sum_over (λ v. times p (taken_in v)) vs
total_is p [] = refl
total_is p (v ∷ vs) =
    let h = total_is p vs in
    let front = total_front (λ k. times p (taken_at (v ∷ vs) k)) (length vs) in
    omega (arith, h, front)

module _ {A B : Type 0} where
  -- two lists, in which the same places pass
  pub times_along : (p : A → Bool) (q : B → Bool) (xs : List A) (ys : List B) → length xs ≡ length ys
      → ((i : ℕ) (x : A) (y : B) → get_elem? xs i ≡ some x → get_elem? ys i ≡ some y → p x ≡ q y) → times p xs ≡ times q ys
  times_along p q [] [] count is = refl
  times_along p q [] (y ∷ ys) count is = absurd (omega (arith, count))
  times_along p q (x ∷ xs) [] count is = absurd (omega (arith, count))
  times_along p q (x ∷ xs) (y ∷ ys) count is =
      let h = times_along p q xs ys (omega (arith, count)) (λ i a b e d. is (suc i) a b e d) in
      let first = ap one_if (is 0 x y refl refl) in
      omega (arith, h, first)

  -- and of which these have the same numbers
  pub rises_along : (p : A → Bool) (q : B → Bool) (f : A → ℕ) (g : B → ℕ) (o : ℕ) (xs : List A) (ys : List B) → length xs ≡ length ys
      → ((i : ℕ) (x : A) (y : B) → get_elem? xs i ≡ some x → get_elem? ys i ≡ some y → (p x ≡ q y) × (f x ≡ g y)) → Rises f o (filter p xs) → Rises g o (filter q ys)
  rises_along p q f g o [] [] count is r = tt
  rises_along p q f g o [] (y ∷ ys) count is r = absurd (omega (arith, count))
  rises_along p q f g o (x ∷ xs) [] count is r = absurd (omega (arith, count))
  rises_along p q f g o (x ∷ xs) (y ∷ ys) count is r =
      let first = is 0 x y refl refl in
      subst (λ (b : Bool). Rises g o (cond b (y ∷ filter q ys) (filter q ys))) first.0
      (by (p x) first.1 (λ z s. rises_along p q f g z xs ys (omega (arith, count)) (λ i a b e d. is (suc i) a b e d) s) r)
    where
      by : (b : Bool) → f x ≡ g y → ((z : ℕ) → Rises f z (filter p xs) → Rises g z (filter q ys)) → Rises f o (cond b (x ∷ filter p xs) (filter p xs)) → Rises g o (cond b (y ∷ filter q ys) (filter q ys))
      by true same rest s = let h = s.0 in (omega (arith, h, same), rest (g y + 1) (subst (λ (n : ℕ). Rises f (n + 1) (filter p xs)) same s.1))
      by false same rest s = rest o s

module _ {A : Type 0} where
  pub inside : (xs : List A) (i : ℕ) (x : A) → get_elem? xs i ≡ some x → i < length xs
  inside [] i x e = absurd (some-ne-none x (sym e))
  inside (y ∷ ys) zero x e = omega arith
  inside (y ∷ ys) (suc i) x e = let h = inside ys i x e in omega (arith, h)

  pub there : (xs : List A) (i : ℕ) → i < length xs → (x : A) × (get_elem? xs i ≡ some x)
  there [] i h = absurd (omega (arith, h))
  there (y ∷ ys) zero h = (y, refl)
  there (y ∷ ys) (suc i) h = there ys i (omega (arith, h))

  pub one_there : (xs : List A) (i : ℕ) (x y : A) → get_elem? xs i ≡ some x → get_elem? xs i ≡ some y → x ≡ y
  one_there xs i x y e f = some-injective x y (sym e ∙ f)

  pub at_same : (xs : List A) (i j : ℕ) (x : A) → i ≡ j → get_elem? xs i ≡ some x → get_elem? xs j ≡ some x
  at_same xs i j x is e = subst (λ (k : ℕ). get_elem? xs k ≡ some x) is e

  -- what passes stands among those that pass
  pub in_filter : (p : A → Bool) (xs : List A) (i : ℕ) (x : A) → get_elem? xs i ≡ some x → p x ≡ true → (j : ℕ) × (get_elem? (filter p xs) j ≡ some x)
  in_filter p [] i x e passes = absurd (some-ne-none x (sym e))
  in_filter p (y ∷ ys) zero x e passes =
      let is : y ≡ x = some-injective y x e in
      (0, ap (λ (b : Bool). get_elem? (cond b (y ∷ filter p ys) (filter p ys)) 0) (ap p is ∙ passes) ∙ ap some is)
  in_filter p (y ∷ ys) (suc i) x e passes = let r = in_filter p ys i x e passes in by (p y) r
    where
      by : (b : Bool) → (j : ℕ) × (get_elem? (filter p ys) j ≡ some x) → (j : ℕ) × (get_elem? (cond b (y ∷ filter p ys) (filter p ys)) j ≡ some x)
      by true s = (suc s.0, s.1)
      by false s = s
