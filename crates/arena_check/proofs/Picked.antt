-- Findings of the numbers of a range that pass a test.
use Rattle.std.proofs.Common.{◌≡◌, ℕ, zero, suc, ◌+◌, ◌<◌, ◌≤◌, Bool, true, false, cond, List, [], ◌∷◌, ◌++◌, map, refl, sym, ap, ◌∙◌, inl, inr, arith, ◌||◌, append_assoc}
use Rattle.std.specs.Prelude.{filter}
use Rattle.std.specs.List.{range_with_len, list_any}
use Rattle.std.proofs.lemmas.Bool.{cases_lt}
use Rattle.std.proofs.lemmas.List.{map-append, append-nil}
use Rattle.std.proofs.lemmas.List.Elements.{filter-append}
use Rattle.arena_check.specs.declared.finding.Finding.{Finding}

-- a range in two parts
pub range-append : (a m n b k : ℕ) → a + m ≡ b → m + n ≡ k → range_with_len a k ≡ range_with_len a m ++ range_with_len b n
range-append a zero n b k e f =
    let at : a ≡ b = omega (arith, e) in
    let len : k ≡ n = omega (arith, f) in
    λ i. range_with_len (at i) (len i)
range-append a (suc m) n b k e f =
    let len : k ≡ suc (m + n) = omega (arith, f) in
    ap (range_with_len a) len ∙ ap (λ (l : List ℕ). a ∷ l) (range-append (a + 1) m n b (m + n) (omega (arith, e)) refl)

-- the findings of the numbers that pass
abbrev pub picked : (ℕ → Finding) → (ℕ → Bool) → List ℕ → List Finding
picked make test numbers = map make (filter test numbers)

pub picked-append : (make : ℕ → Finding) (test : ℕ → Bool) (xs ys : List ℕ) → picked make test (xs ++ ys) ≡ picked make test xs ++ picked make test ys
picked-append make test xs ys = ap (map make) (filter-append test xs ys) ∙ map-append make (filter test xs) (filter test ys)

pub picked_one : (make : ℕ → Finding) (test : ℕ → Bool) (x : ℕ) (b : Bool) → test x ≡ b → picked make test (x ∷ []) ≡ cond b (make x ∷ []) []
picked_one make test x b e = ap (λ (t : Bool). map make (cond t (x ∷ []) [])) e ∙ by b
  where
    by : (b : Bool) → map make (cond b (x ∷ []) []) ≡ cond b (make x ∷ []) []
    by true = refl
    by false = refl

-- one number more
pub picked_more : (make : ℕ → Finding) (test : ℕ → Bool) (a n j k : ℕ) (b : Bool) → a + n ≡ j → n + 1 ≡ k → test j ≡ b
    → picked make test (range_with_len a k) ≡ picked make test (range_with_len a n) ++ cond b (make j ∷ []) []
picked_more make test a n j k b e f is =
    ap (picked make test) (range-append a n 1 j k e f)
    ∙ picked-append make test (range_with_len a n) (j ∷ [])
    ∙ ap (λ (l : List Finding). picked make test (range_with_len a n) ++ l) (picked_one make test j b is)

-- the same numbers pass
pub picked_same : (make : ℕ → Finding) (p q : ℕ → Bool) (a n : ℕ) → ((b : ℕ) → a ≤ b → b < a + n → p b ≡ q b)
    → picked make p (range_with_len a n) ≡ picked make q (range_with_len a n)
picked_same make p q a zero same = refl
picked_same make p q a (suc n) same =
    picked-append make p (a ∷ []) (range_with_len (a + 1) n)
    ∙ (λ i. picked_one make p a (q a) (same a (omega arith) (omega arith)) i ++ picked_same make p q (a + 1) n (λ b low high. same b (omega (arith, low)) (omega (arith, high))) i)
    ∙ ap (λ (l : List Finding). l ++ picked make q (range_with_len (a + 1) n)) (sym (picked_one make q a (q a) refl))
    ∙ sym (picked-append make q (a ∷ []) (range_with_len (a + 1) n))

-- no number passes
neither : (a b : Bool) → (a || b) ≡ false → (a ≡ false) × (b ≡ false)
neither true b e = absurd (let f = e in cc)
neither false b e = (refl, e)

pub none_picked : (make : ℕ → Finding) (test : ℕ → Bool) (xs : List ℕ) → list_any test xs ≡ false → picked make test xs ≡ []
none_picked make test [] e = refl
none_picked make test (x ∷ xs) e =
    let both = neither (test x) (list_any test xs) e in
    picked-append make test (x ∷ []) xs ∙ (λ i. picked_one make test x false both.0 i ++ none_picked make test xs both.1 i)

-- a test of numbers further on
pub any_shifted : (p q : ℕ → Bool) (a b n : ℕ) → ((k : ℕ) → k < n → p (a + k) ≡ q (b + k)) → list_any p (range_with_len a n) ≡ list_any q (range_with_len b n)
any_shifted p q a b zero same = refl
any_shifted p q a b (suc n) same =
    let here : p a ≡ q b = ap p (omega arith) ∙ same 0 (omega arith) ∙ ap q (omega arith) in
    (λ i. here i || any_shifted p q (a + 1) (b + 1) n (λ k lt. ap p (omega arith) ∙ same (k + 1) (omega (arith, lt)) ∙ ap q (omega arith)) i)

-- ---- a loop that lists them

pub listed_hit : (make : ℕ → Finding) (test : ℕ → Bool) (a n j k : ℕ) (before now next : List Finding) → a + n ≡ j → n + 1 ≡ k → test j ≡ true
    → now ≡ before ++ picked make test (range_with_len a n) → next ≡ now ++ make j ∷ [] → next ≡ before ++ picked make test (range_with_len a k)
listed_hit make test a n j k before now next e f hit was is =
    is
    ∙ ap (λ (l : List Finding). l ++ make j ∷ []) was
    ∙ append_assoc before (picked make test (range_with_len a n)) (make j ∷ [])
    ∙ ap (λ (l : List Finding). before ++ l) (sym (picked_more make test a n j k true e f hit))

pub listed_past : (make : ℕ → Finding) (test : ℕ → Bool) (a n j k : ℕ) (before now next : List Finding) → a + n ≡ j → n + 1 ≡ k → test j ≡ false
    → now ≡ before ++ picked make test (range_with_len a n) → next ≡ now → next ≡ before ++ picked make test (range_with_len a k)
listed_past make test a n j k before now next e f miss was is =
    is
    ∙ was
    ∙ ap (λ (l : List Finding). before ++ l) (sym (picked_more make test a n j k false e f miss ∙ append-nil (picked make test (range_with_len a n))))

-- ---- ranges without a number that passes

pub none_in : (p : ℕ → Bool) (a n b : ℕ) → list_any p (range_with_len a n) ≡ false → a ≤ b → b < a + n → p b ≡ false
none_in p a zero b e low high = absurd (omega (arith, low, high))
none_in p a (suc n) b e low high =
    let both = neither (p a) (list_any p (range_with_len (a + 1) n)) e in
    elim (cases_lt a b) [
      | inl lt ↦ none_in p (a + 1) n b both.1 (omega (arith, lt)) (omega (arith, high))
      | inr ge ↦ ap p (let same : b ≡ a = omega (arith, ge, low) in same) ∙ both.0
    ]

pub none_any : (p : ℕ → Bool) (a n : ℕ) → ((b : ℕ) → a ≤ b → b < a + n → p b ≡ false) → list_any p (range_with_len a n) ≡ false
none_any p a zero none = refl
none_any p a (suc n) none =
    (λ i. none a (omega arith) (omega arith) i || none_any p (a + 1) n (λ b low high. none b (omega (arith, low)) (omega (arith, high))) i)
