-- Sorting labels by position changes only their order.
use Rattle.std.proofs.Common.{◌≡◌, ◌≢◌, ℕ, Bool, true, false, List, [], ◌∷◌, refl, sym, inl, inr, ◌⊎◌}
use Rattle.std.specs.Prelude.{◌==◌, map, nat_le}
use Rattle.std.specs.List.{AllByRecursion, list_any}
use Rattle.std.proofs.lemmas.Bool.{cases_Bool, false≢true, or_right}
use Rattle.label_codec.specs.declared.label.Label.{Label}
use Rattle.label_set.specs.declared.placed.Placed.{Placed}
use Rattle.namespace_map.specs.Changes.{by_position, by_position_with}
use Rattle.namespace_laws.proofs.Apart.{PlacesApart}
use Rattle.namespace_laws.proofs.Staged.{Apart, names, all_map}

-- ---- sorting by position changes only the order

module _ (P : Placed → Type 0) where
  with_all : (xs : List Placed) (p : Placed) → P p → AllByRecursion P xs → AllByRecursion P (by_position_with p xs)
  unfolding by_position_with
  with_all [] p one all = (one, tt)
  with_all (q ∷ qs) p one (two, rest) = elim (cases_Bool (nat_le p.label.position q.label.position)) [
    | inl it ↦ rw it (one, (two, rest))
    | inr not_it ↦ rw not_it (two, with_all qs p one rest)
  ]

  pub by_position_all : (xs : List Placed) → AllByRecursion P xs → AllByRecursion P (by_position xs)
  unfolding by_position
  by_position_all [] all = tt
  by_position_all (x ∷ xs) (one, rest) = with_all (by_position xs) x one (by_position_all xs rest)

with_any : (test : Placed → Bool) (xs : List Placed) (p : Placed) → (test p ≡ true) ⊎ (list_any test xs ≡ true) → list_any test (by_position_with p xs) ≡ true
unfolding by_position_with
with_any test [] p (inl here) = rw here refl
with_any test [] p (inr there) = absurd (false≢true there)
with_any test (q ∷ qs) p which = elim (cases_Bool (nat_le p.label.position q.label.position)) [
  | inl it ↦ rw it (first which)
  | inr not_it ↦ rw not_it (second which (cases_Bool (test q)) (with_any test qs p))
]
  where
    first : (test p ≡ true) ⊎ (list_any test (q ∷ qs) ≡ true) → list_any test (p ∷ q ∷ qs) ≡ true
    first (inl here) = rw here refl
    first (inr there) = or_right (test p) (list_any test (q ∷ qs)) there

    second : (test p ≡ true) ⊎ (list_any test (q ∷ qs) ≡ true) → (test q ≡ true) ⊎ (test q ≡ false) → ((test p ≡ true) ⊎ (list_any test qs ≡ true) → list_any test (by_position_with p qs) ≡ true)
        → list_any test (q ∷ by_position_with p qs) ≡ true
    second which (inl it) on = rw it refl
    second (inl here) (inr not_it) on = rw not_it (on (inl here))
    second (inr there) (inr not_it) on = rw not_it (on (inr (rw not_it at there)))

pub by_position_any : (test : Placed → Bool) (xs : List Placed) → list_any test xs ≡ true → list_any test (by_position xs) ≡ true
unfolding by_position
by_position_any test [] e = absurd (false≢true e)
by_position_any test (x ∷ xs) e = elim (cases_Bool (test x)) [
  | inl it ↦ with_any test (by_position xs) x (inl it)
  | inr not_it ↦ with_any test (by_position xs) x (inr (by_position_any test xs (rw not_it at e)))
]

with_apart : (xs : List Placed) (p : Placed) → AllByRecursion (λ (q : Placed). p.«module» ≢ q.«module») xs → PlacesApart xs → PlacesApart (by_position_with p xs)
unfolding by_position_with
with_apart [] p one apart = (tt, tt)
with_apart (q ∷ qs) p (ne, nes) (one, rest) = elim (cases_Bool (nat_le p.label.position q.label.position)) [
  | inl it ↦ rw it ((ne, nes), (one, rest))
  | inr not_it ↦ rw not_it (with_all (λ (r : Placed). q.«module» ≢ r.«module») qs p (λ e. ne (sym e)) one, with_apart qs p nes rest)
]

pub by_position_apart : (xs : List Placed) → PlacesApart xs → PlacesApart (by_position xs)
unfolding by_position
by_position_apart [] apart = tt
by_position_apart (x ∷ xs) (one, rest) = with_apart (by_position xs) x (by_position_all (λ (q : Placed). x.«module» ≢ q.«module») xs one) (by_position_apart xs rest)

abbrev pub pair_of : Placed → ℕ × Label
pair_of p = (p.«module», p.label)

pub pairs_apart : (xs : List Placed) → PlacesApart xs → Apart (map pair_of xs)
pairs_apart [] apart = tt
pairs_apart (x ∷ xs) (one, rest) = (all_map (λ q. x.«module» ≢ q.0) pair_of xs one, pairs_apart xs rest)

pub pairs_named : (xs : List Placed) (m : ℕ) → list_any (λ (p : Placed). p.«module» == m) xs ≡ true → names (map pair_of xs) m ≡ true
pairs_named [] m e = absurd (false≢true e)
pairs_named (x ∷ xs) m e = elim (cases_Bool (x.«module» == m)) [
  | inl it ↦ rw it refl
  | inr not_it ↦ rw not_it (pairs_named xs m (rw not_it at e))
]
