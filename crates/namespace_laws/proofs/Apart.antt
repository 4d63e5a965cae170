-- The labels of one UUID stand on different modules.
use Rattle.std.proofs.Common.{◌≡◌, ◌≢◌, ℕ, zero, suc, ◌+◌, ◌≤◌, Bool, true, false, List, [], ◌∷◌, length, Option, Some, None, refl, sym, ◌∙◌, subst, arith, inl, inr}
use Rattle.std.specs.Prelude.{◌==◌, count_by, cond}
use Rattle.std.specs.Option.{option_map}
use Rattle.std.specs.List.{AllByRecursion, list_any, filter_map, range_with_len, cons_option}
use Rattle.std.proofs.lemmas.Bool.{cases_Bool, false≢true, eqb-true, ne_eqb}
use Rattle.std.proofs.lemmas.List.Sums.{sum_by-cons}
use Rattle.label_codec.specs.declared.label.Label.{Label}
use Rattle.label_set.specs.declared.placed.Placed.{Placed}
use Rattle.namespace_map.proofs.Rising.{all_pass_to}
use Rattle.namespace_map.specs.Areas.{Area}
use Rattle.namespace_map.proofs.Areas.{Proper}
use Rattle.namespace_map.proofs.Labels.{placed_at}
use Rattle.namespace_laws.proofs.Whole.{own_of, slot_on}
use Rattle.namespace_laws.proofs.Agree.{own_by, placed_by}

abbrev pub PlacesApart : List Placed → Type 0
PlacesApart [] = Unit {0}
PlacesApart (p ∷ ps) = AllByRecursion (λ (q : Placed). p.«module» ≢ q.«module») ps × PlacesApart ps

-- labels by module
above : (lab : ℕ → Option Label) (slots : ℕ → ℕ) (n k : ℕ) → AllByRecursion (λ (p : Placed). k ≤ p.«module») (filter_map (placed_by lab slots) (range_with_len k n))
above lab slots zero k = tt
above lab slots (suc n) k = by (lab k) (all_pass_to (λ (p : Placed). k + 1 ≤ p.«module») (λ (p : Placed). k ≤ p.«module») (λ p h. omega arith) (filter_map (placed_by lab slots) (range_with_len (k + 1) n)) (above lab slots n (k + 1)))
  where
    by : (o : Option Label) → AllByRecursion (λ (p : Placed). k ≤ p.«module») (filter_map (placed_by lab slots) (range_with_len (k + 1) n))
        → AllByRecursion (λ (p : Placed). k ≤ p.«module») (cons_option (option_map (λ l. placed_at k (slots k) (record l { slot = slots k })) o) (filter_map (placed_by lab slots) (range_with_len (k + 1) n)))
    by None all = all
    by (Some l) all = (omega arith, all)

apart_by : (lab : ℕ → Option Label) (slots : ℕ → ℕ) (n k : ℕ) → PlacesApart (filter_map (placed_by lab slots) (range_with_len k n))
apart_by lab slots zero k = tt
apart_by lab slots (suc n) k = by (lab k) (apart_by lab slots n (k + 1))
  where
    by : (o : Option Label) → PlacesApart (filter_map (placed_by lab slots) (range_with_len (k + 1) n))
        → PlacesApart (cons_option (option_map (λ l. placed_at k (slots k) (record l { slot = slots k })) o) (filter_map (placed_by lab slots) (range_with_len (k + 1) n)))
    by None apart = apart
    by (Some l) apart =
        (all_pass_to (λ (p : Placed). k + 1 ≤ p.«module») (λ (p : Placed). k ≢ p.«module») (λ p h e. omega arith) (filter_map (placed_by lab slots) (range_with_len (k + 1) n)) (above lab slots n (k + 1)), apart)

pub own_apart : (uuid : List ℕ) (lab : ℕ → Option Label) (areas : List (Option Area)) → Proper uuid lab areas → PlacesApart (own_of uuid areas)
own_apart uuid lab areas proper = subst PlacesApart (sym (own_by uuid lab areas proper)) (apart_by lab (slot_on uuid areas) (length areas) 0)

-- ---- how many stand on a module

abbrev pub on_module : ℕ → Placed → Bool
on_module m p = p.«module» == m

one_more : (test : Placed → Bool) (p : Placed) (ps : List Placed) → count_by test (p ∷ ps) ≡ cond (test p) 1 0 + count_by test ps
one_more test p ps = sum_by-cons (λ y. cond (test y) 1 0) p ps

pub count_none : (test : Placed → Bool) (xs : List Placed) → list_any test xs ≡ false → count_by test xs ≡ 0
count_none test [] e = refl
count_none test (x ∷ xs) e = elim (cases_Bool (test x)) [
  | inl it ↦ absurd (false≢true (sym e ∙ rw it refl))
  | inr not_it ↦ let h = count_none test xs (rw not_it at e) in one_more test x xs ∙ rw not_it (omega (arith, h))
]

pub count_some : (test : Placed → Bool) (xs : List Placed) → list_any test xs ≡ true → 1 ≤ count_by test xs
count_some test [] e = absurd (false≢true e)
count_some test (x ∷ xs) e = elim (cases_Bool (test x)) [
  | inl it ↦ let h : count_by test (x ∷ xs) ≡ 1 + count_by test xs = one_more test x xs ∙ rw it refl in omega (arith, h)
  | inr not_it ↦
      let h : count_by test (x ∷ xs) ≡ count_by test xs = one_more test x xs ∙ rw not_it (omega arith) in
      let i = count_some test xs (rw not_it at e) in omega (arith, h, i)
]

none_on : (xs : List Placed) (m : ℕ) → AllByRecursion (λ (q : Placed). m ≢ q.«module») xs → list_any (on_module m) xs ≡ false
none_on [] m all = refl
none_on (x ∷ xs) m (ne, rest) = rw (ne_eqb x.«module» m (λ e. ne (sym e))) (none_on xs m rest)

pub count_apart : (xs : List Placed) (m : ℕ) → PlacesApart xs → count_by (on_module m) xs ≤ 1
count_apart [] m apart = omega arith
count_apart (x ∷ xs) m (one, rest) = elim (cases_Bool (x.«module» == m)) [
  | inl it ↦
      let none = count_none (on_module m) xs (subst (λ (k : ℕ). list_any (on_module k) xs ≡ false) (eqb-true x.«module» m it) (none_on xs x.«module» one)) in
      let h : count_by (on_module m) (x ∷ xs) ≡ 1 + count_by (on_module m) xs = one_more (on_module m) x xs ∙ rw it refl in
      omega (arith, none, h)
  | inr not_it ↦
      let h : count_by (on_module m) (x ∷ xs) ≡ count_by (on_module m) xs = one_more (on_module m) x xs ∙ rw not_it (omega arith) in
      let i = count_apart xs m rest in omega (arith, h, i)
]
