-- Lists made of the numbers of a range.
use Rattle.std.proofs.Common.{◌≡◌, ℕ, zero, suc, ◌+◌, ◌<◌, ◌≤◌, Bool, true, false, cond, List, [], ◌∷◌, ◌++◌, map, Option, Some, None, refl, ap, ◌∙◌, arith}
use Rattle.std.specs.Prelude.{filter}
use Rattle.std.specs.List.{range_with_len, filter_map, cons_option}
use Rattle.std.proofs.lemmas.List.{map-append}
use Rattle.std.proofs.lemmas.List.Elements.{filter-append, filter_map-append}
use Rattle.arena_check.proofs.Picked.{range-append}

-- one number more that is taken if it passes
pub taken_more : (f : ℕ → ℕ) (p : ℕ → Bool) (n k : ℕ) (b : Bool) → n + 1 ≡ k → p n ≡ b
    → map f (filter p (range_with_len 0 k)) ≡ map f (filter p (range_with_len 0 n)) ++ cond b (f n ∷ []) []
taken_more f p n k b e is =
    ap (λ (l : List ℕ). map f (filter p l)) (range-append 0 n 1 n k (omega arith) e)
    ∙ ap (map f) (filter-append p (range_with_len 0 n) (n ∷ []))
    ∙ map-append f (filter p (range_with_len 0 n)) (filter p (n ∷ []))
    ∙ ap (λ (t : Bool). map f (filter p (range_with_len 0 n)) ++ map f (cond t (n ∷ []) [])) is
    ∙ ap (λ (l : List ℕ). map f (filter p (range_with_len 0 n)) ++ l) (by b)
  where
    by : (b : Bool) → map f (cond b (n ∷ []) []) ≡ cond b (f n ∷ []) []
    by true = refl
    by false = refl

-- one number more that is listed if it has a value
pub listed_more : {X : Type 0} (h : ℕ → Option X) (n k : ℕ) (o : Option X) → n + 1 ≡ k → h n ≡ o
    → filter_map h (range_with_len 0 k) ≡ filter_map h (range_with_len 0 n) ++ cons_option o []
listed_more {X} h n k o e is =
    ap (filter_map h) (range-append 0 n 1 n k (omega arith) e)
    ∙ filter_map-append h (range_with_len 0 n) (n ∷ [])
    ∙ ap (λ (v : Option X). filter_map h (range_with_len 0 n) ++ cons_option v []) is

-- functions that agree on the numbers of a range
pub filter_same : (p q : ℕ → Bool) (a n : ℕ) → ((b : ℕ) → a ≤ b → b < a + n → p b ≡ q b) → filter p (range_with_len a n) ≡ filter q (range_with_len a n)
filter_same p q a zero same = refl
filter_same p q a (suc n) same =
    let here : p a ≡ q a = same a (omega arith) (omega arith) in
    let rest : filter p (range_with_len (a + 1) n) ≡ filter q (range_with_len (a + 1) n) =
    filter_same p q (a + 1) n (λ b low high. same b (omega (arith, low)) (omega (arith, high))) in
    λ i. cond (here i) (a ∷ rest i) (rest i)

pub map_same : (f g : ℕ → ℕ) (a n : ℕ) → ((b : ℕ) → a ≤ b → b < a + n → f b ≡ g b) → map f (range_with_len a n) ≡ map g (range_with_len a n)
map_same f g a zero same = refl
map_same f g a (suc n) same =
    let here : f a ≡ g a = same a (omega arith) (omega arith) in
    let rest : map f (range_with_len (a + 1) n) ≡ map g (range_with_len (a + 1) n) =
    map_same f g (a + 1) n (λ b low high. same b (omega (arith, low)) (omega (arith, high))) in
    λ i. here i ∷ rest i

pub filter_map_same : {X : Type 0} (h k : ℕ → Option X) (a n : ℕ) → ((b : ℕ) → a ≤ b → b < a + n → h b ≡ k b)
    → filter_map h (range_with_len a n) ≡ filter_map k (range_with_len a n)
filter_map_same h k a zero same = refl
filter_map_same {X} h k a (suc n) same =
    let here : h a ≡ k a = same a (omega arith) (omega arith) in
    let rest : filter_map h (range_with_len (a + 1) n) ≡ filter_map k (range_with_len (a + 1) n) =
    filter_map_same h k (a + 1) n (λ b low high. same b (omega (arith, low)) (omega (arith, high))) in
    λ i. cons_option (here i) (rest i)

-- all numbers pass
pub filter_all : (p : ℕ → Bool) (a n : ℕ) → ((b : ℕ) → a ≤ b → b < a + n → p b ≡ true) → filter p (range_with_len a n) ≡ range_with_len a n
filter_all p a zero all = refl
filter_all p a (suc n) all =
    let here : p a ≡ true = all a (omega arith) (omega arith) in
    let rest : filter p (range_with_len (a + 1) n) ≡ range_with_len (a + 1) n =
    filter_all p (a + 1) n (λ b low high. all b (omega (arith, low)) (omega (arith, high))) in
    λ i. cond (here i) (a ∷ rest i) (rest i)

-- a value for each number that passes
pub listed_if : {X : Type 0} (f : ℕ → X) (p : ℕ → Bool) (xs : List ℕ) → filter_map (λ x. cond (p x) (Some (f x)) None) xs ≡ map f (filter p xs)
listed_if f p [] = refl
listed_if {X} f p (x ∷ xs) =
    ap (cons_option (cond (p x) (Some (f x)) None)) (listed_if f p xs) ∙ by (p x)
  where
    by : (b : Bool) → cons_option (cond b (Some (f x)) None) (map f (filter p xs)) ≡ map f (cond b (x ∷ filter p xs) (filter p xs))
    by true = refl
    by false = refl
