-- DPA ranges in strict order have no alias.
use Rattle.std.proofs.Common.{◌≡◌, ◌⊎◌, ℕ, zero, suc, ◌+◌, ◌-◌, ◌<◌, ◌≤◌, Bool, true, false, ◌&&◌, eqb, ltb, leb, min, max, List, [], ◌∷◌, length, get_or, None, refl, sym, ap, ◌∙◌, inl, inr, subst, arith}
use Rattle.std.specs.List.{find, Contains}
use Rattle.std.specs.List.Sorted.{IsPermutation}
use Rattle.std.proofs.lemmas.Bool.{cases_order, eqb-true, ltb-true, leb-true, and_parts, or_cases, not_from_true, eq-eqb, ne_eqb, le-ltb, and_left, and_right}
use Rattle.std.proofs.lemmas.List.Sorted.{Contains-permutation}
use Rattle.std.proofs.lemmas.List.{get_or_default}
use Rattle.nfit_reader.specs.declared.alias.DpaRange.{DpaRange}
use Rattle.nfit_reader.specs.Table.{is_alias, alias_in}
use Rattle.nfit_reader.specs.Apart.{is_before, StandApart}

-- before, in numbers
Before : DpaRange → DpaRange → Type 0
Before a b = (a.«module» < b.«module») ⊎ ((a.«module» ≡ b.«module») × (a.start + a.size ≤ b.start))

told : (a b : DpaRange) → is_before a b ≡ true → Before a b
unfolding is_before Before
told a b e = elim (or_cases (ltb a.«module» b.«module») (eqb a.«module» b.«module» && leb (a.start + a.size) b.start) e) [
  | inl low ↦ inl (ltb-true _ _ low)
  | inr same ↦ let parts = and_parts (eqb a.«module» b.«module») (leb (a.start + a.size) b.start) same in inr (eqb-true _ _ parts.0, leb-true _ _ parts.1)
]

further : (a b d : DpaRange) → Before a b → Before b d → Before a d
unfolding Before
further a b d (inl low) (inl low') = inl (omega arith)
further a b d (inl low) (inr same) = let e = same.0 in inl (omega arith)
further a b d (inr same) (inl low) = let e = same.0 in inl (omega arith)
further a b d (inr same) (inr same') = let e = same.0 in let e' = same'.0 in let f = same.1 in let f' = same'.1 in inr (omega arith, omega arith)

-- each DPA range is before all later ones
later : (xs : List DpaRange) (x : DpaRange) → StandApart xs → (i n : ℕ) → i + n + 1 < length xs → Before (get_or xs i x) (get_or xs (i + n + 1) x)
later xs x apart i zero h =
    let e : i + 1 ≡ i + zero + 1 = omega arith in
    subst (λ n. Before (get_or xs i x) (get_or xs n x)) e (told (get_or xs i x) (get_or xs (i + 1) x) (apart i x (omega arith)))
later xs x apart i (suc n) h =
    let e : (i + n + 1) + 1 ≡ i + suc n + 1 = omega arith in
    subst (λ k. Before (get_or xs i x) (get_or xs k x)) e
    (further (get_or xs i x) (get_or xs (i + n + 1) x) (get_or xs ((i + n + 1) + 1) x) (later xs x apart i n (omega arith)) (told (get_or xs (i + n + 1) x) (get_or xs ((i + n + 1) + 1) x) (apart (i + n + 1) x (omega arith))))

-- if one DPA range is before another, neither is an alias of the other
no_alias : (a b : DpaRange) → Before a b → (is_alias a b ≡ false) × (is_alias b a ≡ false)
unfolding is_alias Before
no_alias a b (inl low) =
    let e : eqb a.«module» b.«module» ≡ false = ne_eqb a.«module» b.«module» (λ s. omega arith) in
    let f : eqb b.«module» a.«module» ≡ false = ne_eqb b.«module» a.«module» (λ s. omega arith) in
    (and_left _ _ (and_left _ _ e), and_left _ _ (and_left _ _ f))
no_alias a b (inr same) =
    let ends : a.start + a.size ≤ b.start = same.1 in (
      and_right _ _ (le-ltb (max a.start b.start) (min (a.start + a.size) (b.start + b.size)) (omega arith)),
      and_right _ _ (le-ltb (max b.start a.start) (min (b.start + b.size) (a.start + a.size)) (omega arith)),
    )

no_alias_itself : (a : DpaRange) → is_alias a a ≡ false
unfolding is_alias
no_alias_itself a = and_left _ _ (and_right _ _ (not_from_true _ (eq-eqb a.region a.region refl)))

pub none_of_them : (xs : List DpaRange) → StandApart xs → (p q : DpaRange) → Contains xs p → Contains xs q → is_alias p q ≡ false
none_of_them xs apart p q (i, i-in, i-is) (j, j-in, j-is) =
    let j-is' : get_or xs j p ≡ q = get_or_default xs j p q j-in ∙ j-is in
    elim (cases_order i j) [
      | inl same ↦ subst (λ x. is_alias p x ≡ false) (sym i-is ∙ ap (λ k. get_or xs k p) same ∙ j-is') (no_alias_itself p)
      | inr (inl low) ↦
          let e : i + (j - i - 1) + 1 ≡ j = omega arith in
          let before : Before (get_or xs i p) (get_or xs j p) = subst (λ k. Before (get_or xs i p) (get_or xs k p)) e (later xs p apart i (j - i - 1) (omega arith)) in
          (no_alias p q (subst (λ x. Before x q) i-is (subst (λ y. Before (get_or xs i p) y) j-is' before))).0
      | inr (inr high) ↦
          let e : j + (i - j - 1) + 1 ≡ i = omega arith in
          let before : Before (get_or xs j p) (get_or xs i p) = subst (λ k. Before (get_or xs j p) (get_or xs k p)) e (later xs p apart j (i - j - 1) (omega arith)) in
          (no_alias q p (subst (λ x. Before x p) j-is' (subst (λ y. Before (get_or xs j p) y) i-is before))).1
    ]

first_in : (x : DpaRange) (xs : List DpaRange) → Contains (x ∷ xs) x
first_in x xs = (0, omega arith, refl)

more_in : (x : DpaRange) (xs : List DpaRange) (q : DpaRange) → Contains xs q → Contains (x ∷ xs) q
more_in x xs q (k, k-in, k-is) = (suc k, omega arith, k-is)

find_none : (p : DpaRange → Bool) (xs : List DpaRange) → ((q : DpaRange) → Contains xs q → p q ≡ false) → find p xs ≡ None
find_none p [] none = refl
find_none p (x ∷ xs) none = let e : p x ≡ false = none x (first_in x xs) in rw e (find_none p xs (λ q q-in. none q (more_in x xs q q-in)))

pub alias_none : (xs : List DpaRange) → ((p q : DpaRange) → Contains xs p → Contains xs q → is_alias p q ≡ false) → alias_in xs ≡ None
unfolding alias_in
alias_none [] none = refl
alias_none (a ∷ xs) none =
    let e : find (is_alias a) xs ≡ None = find_none (is_alias a) xs (λ q q-in. none a q (first_in a xs) (more_in a xs q q-in)) in
    rw e (alias_none xs (λ p q p-in q-in. none p q (more_in a xs p p-in) (more_in a xs q q-in)))

pub apart_none : (xs sorted : List DpaRange) → IsPermutation xs sorted → StandApart sorted → alias_in xs ≡ None
apart_none xs sorted same apart = alias_none xs (λ p q p-in q-in. none_of_them sorted apart p q (Contains-permutation xs sorted p same p-in) (Contains-permutation xs sorted q same q-in))
