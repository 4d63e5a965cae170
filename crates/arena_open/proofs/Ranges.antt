-- Ranges of numbers.
use Rattle.std.proofs.Common.{◌≡◌, ℕ, zero, suc, ◌+◌, ◌<◌, ◌≤◌, List, [], ◌∷◌, ◌++◌, map, refl, ap, ◌∙◌, inl, inr, arith}
use Rattle.std.specs.List.{range_with_len}
use Rattle.std.proofs.lemmas.Bool.{eq-eqb, ne_eqb, cases_lt}
use Rattle.std.proofs.lemmas.List.FromFn.{get_or-range_with_len, length-range_with_len}
use Rattle.map_table.specs.Blocks.{count_of, NamesEachOnce}
use Rattle.map_table.proofs.Counting.{count_of-cons}

pub map_range : {X : Type 0} (f g : ℕ → X) (a n : ℕ) → ((k : ℕ) → a ≤ k → k < a + n → f k ≡ g k) → map f (range_with_len a n) ≡ map g (range_with_len a n)
map_range f g a zero same = refl
map_range {X} f g a (suc n) same =
    let here : f a ≡ g a = same a (omega arith) (omega arith) in
    let rest : map f (range_with_len (a + 1) n) ≡ map g (range_with_len (a + 1) n) = map_range f g (a + 1) n (λ k low high. same k (omega arith) (omega arith)) in
    λ i. here i ∷ rest i

pub map_map : {X Y : Type 0} (f : X → Y) (g : ℕ → X) (xs : List ℕ) → map f (map g xs) ≡ map (λ k. f (g k)) xs
map_map f g [] = refl
map_map {X} {Y} f g (x ∷ xs) = ap (λ (ys : List Y). f (g x) ∷ ys) (map_map f g xs)

pub range-append : (a n m : ℕ) → range_with_len a n ++ range_with_len (a + n) m ≡ range_with_len a (n + m)
range-append a zero m = ap (λ (k : ℕ). range_with_len k m) (let e : a + 0 ≡ a = omega arith in e) ∙ ap (range_with_len a) (let e : m ≡ 0 + m = omega arith in e)
range-append a (suc n) m =
    ap (λ (xs : List ℕ). a ∷ xs) (ap (λ (k : ℕ). range_with_len (a + 1) n ++ range_with_len k m) (let e : a + suc n ≡ a + 1 + n = omega arith in e) ∙ range-append (a + 1) n m)
    ∙ ap (range_with_len a) (let e : suc (n + m) ≡ suc n + m = omega arith in e)

-- a shifted range
pub map_plus : (e a n : ℕ) → map (λ k. e + k) (range_with_len a n) ≡ range_with_len (e + a) n
map_plus e a zero = refl
map_plus e a (suc n) =
    ap (λ (xs : List ℕ). (e + a) ∷ xs) (map_plus e (a + 1) n ∙ ap (λ (k : ℕ). range_with_len k n) (let p : e + (a + 1) ≡ e + a + 1 = omega arith in p))

count_below : (b a n : ℕ) → b < a → count_of b (range_with_len a n) ≡ 0
count_below b a zero lt = refl
count_below b a (suc n) lt =
    count_of-cons b a (range_with_len (a + 1) n) ∙ rw (ne_eqb a b (λ e. omega (arith, e))) (omega (arith, count_below b (a + 1) n (omega arith)))

count_once : (b a n : ℕ) → a ≤ b → b < a + n → count_of b (range_with_len a n) ≡ 1
count_once b a zero low high = absurd (omega arith)
count_once b a (suc n) low high = elim (cases_lt a b) [
  | inl lt ↦ count_of-cons b a (range_with_len (a + 1) n) ∙ rw (ne_eqb a b (λ e. omega (arith, e, lt))) (omega (arith, count_once b (a + 1) n (omega arith) (omega arith)))
  | inr ge ↦ count_of-cons b a (range_with_len (a + 1) n) ∙ rw (eq-eqb a b (omega arith)) (omega (arith, count_below b (a + 1) n (omega arith)))
]

-- the numbers below a number are each named once
pub range_once : (n : ℕ) → NamesEachOnce n (range_with_len 0 n)
range_once n = record {
  below = λ k d lt. (let at : k < n = omega (arith, length-range_with_len 0 n) in omega (arith, get_or-range_with_len 0 n k d at));
  once = λ b lt. count_once b 0 n (omega arith) (omega arith);
}
