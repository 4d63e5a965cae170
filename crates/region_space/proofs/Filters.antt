-- Filters of lists, part by part.
use Rattle.std.proofs.Common.{◌≡◌, ℕ, zero, suc, ◌<◌, ◌≤◌, Bool, true, false, cond, ◌&&◌, ◌||◌, List, [], ◌∷◌, ◌++◌, get_or, length, take, refl, ◌∙◌, arith}
use Rattle.std.specs.Prelude.{filter}
use Rattle.std.specs.List.{list_any}
use Rattle.std.proofs.lemmas.List.Elements.{filter-append}

-- a filter of a list with one more element that passes
pub filter_one_more : {X : Type 0} (p : X → Bool) (xs : List X) (x : X) → p x ≡ true → filter p (xs ++ x ∷ []) ≡ filter p xs ++ x ∷ []
filter_one_more p xs x passes = filter-append p xs (x ∷ []) ∙ rw passes refl

-- no element from some place on passes, and those before it pass as by another test
pub filter_part : {X : Type 0} (p q : X → Bool) (xs : List X) (n : ℕ) → ((k : ℕ) (d : X) → k < n → k < length xs → p (get_or xs k d) ≡ q (get_or xs k d))
    → ((k : ℕ) (d : X) → n ≤ k → k < length xs → p (get_or xs k d) ≡ false) → filter p xs ≡ filter q (take n xs)
filter_part p q [] zero same none = refl
filter_part p q [] (suc n) same none = refl
filter_part p q (x ∷ xs) zero same none =
    rw (none 0 x (omega arith) (omega arith)) (filter_part p q xs zero (λ k d lt l. absurd (omega arith)) (λ k d le l. none (suc k) d (omega arith) (omega arith)))
filter_part p q (x ∷ xs) (suc n) same none =
    let rest : filter p xs ≡ filter q (take n xs) = filter_part p q xs n (λ k d lt l. same (suc k) d (omega arith) (omega arith)) (λ k d le l. none (suc k) d (omega arith) (omega arith)) in
    let first : p x ≡ q x = same 0 x (omega arith) (omega arith) in
    rw (first, rest) refl

-- no element passes
pub filter_none : {X : Type 0} (p : X → Bool) (xs : List X) → ((k : ℕ) (d : X) → k < length xs → p (get_or xs k d) ≡ false) → filter p xs ≡ []
filter_none p [] none = refl
filter_none p (x ∷ xs) none = rw (none 0 x (omega arith)) (filter_none p xs (λ k d l. none (suc k) d (omega arith)))

-- whether some element that passes one test passes another
pub any_filter : {X : Type 0} (p q : X → Bool) (xs : List X) → list_any p (filter q xs) ≡ list_any (λ x. q x && p x) xs
any_filter p q [] = refl
any_filter p q (x ∷ xs) = any_filter_by p q x xs (q x) refl (any_filter p q xs)
  where
    any_filter_by : {X : Type 0} (p q : X → Bool) (x : X) (xs : List X) (b : Bool) → q x ≡ b → list_any p (filter q xs) ≡ list_any (λ x. q x && p x) xs
        → list_any p (cond b (x ∷ filter q xs) (filter q xs)) ≡ ((b && p x) || list_any (λ x. q x && p x) xs)
    any_filter_by p q x xs true e h = rw h refl
    any_filter_by p q x xs false e h = h

-- tests that agree
pub any_same : {X : Type 0} (p q : X → Bool) (xs : List X) → ((x : X) → p x ≡ q x) → list_any p xs ≡ list_any q xs
any_same p q [] same = refl
any_same p q (x ∷ xs) same = rw (same x, any_same p q xs same) refl
