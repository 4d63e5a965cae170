-- The least offset that fits, found by searching and by its definition.
use Rattle.std.proofs.Common.{◌≡◌, ℕ, zero, suc, ◌+◌, ◌*◌, ◌/◌, ◌<◌, ◌≤◌, Bool, true, false, ◌&&◌, List, [], ◌∷◌, length, map, Option, Some, None, Ok, Err, refl, sym, ap, ◌∙◌, inl, inr, arith}
use Rattle.std.specs.Prelude.{find, IsTrue, is_none, unwrap_or}
use Rattle.std.specs.List.{range_with_len}
use Rattle.std.proofs.lemmas.Nat.{div-add-mod'}
use Rattle.std.proofs.Math.Nat.{le-div_iff_mul-le, mul-mod_left}
use Rattle.std.proofs.lemmas.Bool.{cases_Bool, cases_lt, false≢true, leb-true}
use Rattle.nvd_words.specs.Checks.{first_fault, fault_if, value_unless}
use Rattle.nfit_reader.specs.declared.table.Mapping.{Mapping}
use Rattle.interleave.specs.Places.{unit_of}
use Rattle.region_space.specs.declared.extent.Extent.{Extent}
use Rattle.region_space.specs.Space.{fits, is_clear, IsFirstFitAnswer}
use Rattle.namespace_map.specs.Commands.{first_fit_of}
use Rattle.namespace_map.specs.declared.refused.OpRefused.TheVariants.{NoSpace}

module _ (p : ℕ → Bool) (unit : ℕ) where
  abbrev multiples : ℕ → ℕ → List ℕ
  multiples a n = map (λ k. k * unit) (range_with_len a n)

  find_none : (a n : ℕ) → ((k : ℕ) → p (k * unit) ≡ false) → find p (multiples a n) ≡ None
  find_none a zero never = refl
  find_none a (suc n) never = rw (never a) (find_none (a + 1) n never)

  find_at : (a n k : ℕ) → a ≤ k → k < a + n → p (k * unit) ≡ true → ((j : ℕ) → j < k → p (j * unit) ≡ false) → find p (multiples a n) ≡ Some (k * unit)
  find_at a zero k from lt here before = absurd (omega arith)
  find_at a (suc n) k from lt here before =
      elim (cases_Bool (p (a * unit))) [
        | inl it ↦
            let same : a ≡ k = at_first it in
            rw it (ap (λ (j : ℕ). Some (j * unit)) same)
        | inr not_it ↦
            let later : a + 1 ≤ k = behind not_it in
            rw not_it (find_at (a + 1) n k later (omega arith) here before)
      ]
    where
      at_first : p (a * unit) ≡ true → a ≡ k
      at_first it = elim (cases_lt a k) [ inl less ↦ absurd (false≢true (sym (before a less) ∙ it)) | inr not_less ↦ omega (arith, not_less) ]

      behind : p (a * unit) ≡ false → a + 1 ≤ k
      behind not_it = elim (cases_lt a k) [ inl less ↦ omega (arith, less) | inr not_less ↦ absurd (let same : a ≡ k = omega (arith, not_less) in false≢true (sym not_it ∙ ap (λ (j : ℕ). p (j * unit)) same ∙ here)) ]

unit_some : (set : List Mapping) → 0 < unit_of set
unit_some [] = omega arith
unit_some (m ∷ ms) = omega arith

first_inside : (m : Mapping) (ms : List Mapping) (extents : List Extent) (raw offset : ℕ) → fits (m ∷ ms) extents raw offset ≡ true → offset ≤ m.size
first_inside m ms extents raw offset h =
    omega (arith, leb-true (offset + raw) m.size (left _ _ (left (is_clear extents raw offset m) _ h)))
  where
    left : (a b : Bool) → (a && b) ≡ true → a ≡ true
    left true b e = refl
    left false b e = e

less : (j u offset : ℕ) → 0 < u → (j + 1) * u ≤ offset → j * u < offset
less j u offset some le = omega (arith, le)

is_true : (b : Bool) → IsTrue b → b ≡ true
is_true true h = refl
is_true false h = h

-- what the search answers is the definition's
pub first_fit_is : (set : List Mapping) (extents : List Extent) (raw : ℕ) (answer : Option ℕ) → 0 < length set → IsFirstFitAnswer set extents (unit_of set) raw answer → answer ≡ first_fit_of set extents raw
first_fit_is [] extents raw answer some is = absurd (omega arith)
first_fit_is (m ∷ ms) extents raw None some is =
    let u = unit_of (m ∷ ms) in
    sym (find_none (fits (m ∷ ms) extents raw) u 0 (m.size / u + 1) (λ k. is (k * u) (mul-mod_left k u)))
first_fit_is (m ∷ ms) extents raw (Some offset) some is =
    let u = unit_of (m ∷ ms) in
    let k = offset / u in
    let fine : fits (m ∷ ms) extents raw offset ≡ true = is_true (fits (m ∷ ms) extents raw offset) is.here in
    let whole : k * u ≡ offset = omega (arith, div-add-mod' offset u, is.whole) in
    let inside : k ≤ m.size / u = (le-div_iff_mul-le {k = u} {x = k} {y = m.size} (unit_some (m ∷ ms))).1 (omega (arith, whole, first_inside m ms extents raw offset fine)) in
    ap (λ (n : ℕ). Some n) (sym whole)
    ∙ sym (find_at (fits (m ∷ ms) extents raw) u 0 (m.size / u + 1) k (omega arith) (omega (arith, inside)) (ap (fits (m ∷ ms) extents raw) whole ∙ fine)
    (λ j lt. is.first (j * u) (below j lt) (mul-mod_left j u)))
  where
    below : (j : ℕ) → j < offset / unit_of (m ∷ ms) → j * unit_of (m ∷ ms) < offset
    below j lt =
        let u = unit_of (m ∷ ms) in
        let le : (j + 1) * u ≤ offset = (le-div_iff_mul-le {k = u} {x = j + 1} {y = offset} (unit_some (m ∷ ms))).0 (omega arith) in
        less j u offset (unit_some (m ∷ ms)) le

-- a place, or the refusal
pub place_found : (o : Option ℕ) (offset raw : ℕ) → Some offset ≡ o → Ok offset ≡ value_unless (unwrap_or o 0) (first_fault (fault_if (is_none o) (NoSpace raw) ∷ []))
unfolding first_fault
place_found o offset raw is = rw (sym is) refl

pub no_place : (o : Option ℕ) (raw : ℕ) → None ≡ o → Err (NoSpace raw) ≡ value_unless (unwrap_or o 0) (first_fault (fault_if (is_none o) (NoSpace raw) ∷ []))
unfolding first_fault
no_place o raw is = rw (sym is) refl
