-- Tests of the records of an object.
use Rattle.std.proofs.Common.{◌≡◌, ℕ, zero, suc, ◌+◌, ◌*◌, ◌/◌, ◌<◌, ◌≤◌, Bool, true, false, List, [], ◌∷◌, length, map, get_or, Option, Some, None, refl, sym, ap, ◌∙◌, arith, inl, inr}
use Rattle.std.specs.Prelude.{◌||◌, nat_le}
use Rattle.std.specs.List.{list_any, range_with_len}
use Rattle.std.proofs.lemmas.Bool.{cases_Bool, cases_lt}
use Rattle.std.proofs.lemmas.Bool.Decides.{nat_tests}
use Rattle.std.proofs.lemmas.List.{get_or_past}
use Rattle.bad_ranges.specs.declared.ranges.BadRange.{BadRange}
use Rattle.bad_ranges.specs.Bad.{has_record, range_at, records_of}

-- ---- numbers from `first` on

after : (p : ℕ → Bool) (first j : ℕ) → first ≤ j → p first ≡ false → p j ≡ true → first + 1 ≤ j
after p first j le fails passes = elim (cases_lt first j) [
  | inl before ↦ omega arith
  | inr above ↦
      let same : first ≡ j = omega arith in
      absurd (let e = sym fails ∙ ap p same ∙ passes in cc)
]

-- one passes
pub any_here : (p : ℕ → Bool) (first count j : ℕ) → first ≤ j → j < first + count → p j ≡ true → list_any p (range_with_len first count) ≡ true
any_here p first zero j le lt passes = absurd (omega arith)
any_here p first (suc count) j le lt passes = elim (cases_Bool (p first)) [
  | inl here ↦ rw here refl
  | inr fails ↦
      let later : first + 1 ≤ j = after p first j le fails passes in
      rw fails (any_here p (first + 1) count j later (omega arith) passes)
]

-- none passes
pub none_here : (p : ℕ → Bool) (first count : ℕ) → ((j : ℕ) → first ≤ j → j < first + count → p j ≡ false) → list_any p (range_with_len first count) ≡ false
none_here p first zero fails = refl
none_here p first (suc count) fails =
    rw (fails first (omega arith) (omega arith)) (none_here p (first + 1) count (λ j le lt. fails j (omega arith) (omega arith)))

-- a number that passes
pub which_passes : (p : ℕ → Bool) (first count : ℕ) → list_any p (range_with_len first count) ≡ true → (j : ℕ) × (first ≤ j) × (j < first + count) × (p j ≡ true)
which_passes p first zero passes = absurd cc
which_passes p first (suc count) passes = elim (cases_Bool (p first)) [
  | inl here ↦ (first, omega arith, omega arith, here)
  | inr fails ↦
      let later = which_passes p (first + 1) count (rw fails at passes) in
      (later.0, omega (arith, later.1), omega (arith, later.2), later.3)
]

-- among more numbers too
pub among_more : (p : ℕ → Bool) (first count i size : ℕ) → first ≤ i → i + size ≤ first + count → list_any p (range_with_len i size) ≡ true → list_any p (range_with_len first count) ≡ true
among_more p first count i size le inside passes =
    let j = which_passes p i size passes in
    any_here p first count j.0 (omega (arith, le, j.1)) (omega (arith, inside, j.2)) j.3

-- each fails
pub each_fails : (p : ℕ → Bool) (first count j : ℕ) → list_any p (range_with_len first count) ≡ false → first ≤ j → j < first + count → p j ≡ false
each_fails p first count j fails le lt = elim (cases_Bool (p j)) [
  | inl passes ↦ absurd (let e = sym (any_here p first count j le lt passes) ∙ fails in cc)
  | inr other ↦ other
]

pub any_map : {X Y : Type 0} (p : Y → Bool) (f : X → Y) (xs : List X) → list_any p (map f xs) ≡ list_any (λ x. p (f x)) xs
any_map p f [] = refl
any_map p f (x ∷ xs) = ap (λ b. p (f x) || b) (any_map p f xs)

-- ---- the records of an object

pub record_passes : (p : BadRange → Bool) (bytes : List ℕ) (j : ℕ) → j < length bytes / 16 → p (range_at bytes (16 * j)) ≡ true → list_any p (records_of (Some bytes)) ≡ true
unfolding records_of
record_passes p bytes j lt passes =
    any_map p (λ i. range_at bytes (16 * i)) (range_with_len 0 (length bytes / 16))
    ∙ any_here (λ i. p (range_at bytes (16 * i))) 0 (length bytes / 16) j (omega arith) (omega arith) passes

pub no_record_passes : (p : BadRange → Bool) (bytes : List ℕ) → ((j : ℕ) → j < length bytes / 16 → p (range_at bytes (16 * j)) ≡ false) → list_any p (records_of (Some bytes)) ≡ false
unfolding records_of
no_record_passes p bytes fails =
    any_map p (λ i. range_at bytes (16 * i)) (range_with_len 0 (length bytes / 16))
    ∙ none_here (λ i. p (range_at bytes (16 * i))) 0 (length bytes / 16) (λ j le lt. fails j (omega arith))

pub no_object : (p : BadRange → Bool) → list_any p (records_of None) ≡ false
unfolding records_of
no_object p = refl

pub no_module : (p : BadRange → Bool) (objects : List (Option (List ℕ))) (which : ℕ) → length objects ≤ which → list_any p (records_of (get_or objects which None)) ≡ false
no_module p objects which past = ap (λ object. list_any p (records_of object)) (get_or_past objects which None past) ∙ no_object p

-- ---- no object has a record

no_record : (object : Option (List ℕ)) → has_record object ≡ false → records_of object ≡ []
unfolding records_of
no_record None is = refl
no_record (Some bytes) is =
    let short : length bytes / 16 ≡ 0 = few (length bytes) is in
    ap (λ n. map (λ i. range_at bytes (16 * i)) (range_with_len 0 n)) short
  where
    few : (n : ℕ) → nat_le 16 n ≡ false → n / 16 ≡ 0
    few n is = grind (arith, nat_tests)

first_fails : (a b : Bool) → (a || b) ≡ false → a ≡ false
first_fails true b is = absurd cc
first_fails false b is = refl

others_fail : (a b : Bool) → (a || b) ≡ false → b ≡ false
others_fail true b is = absurd cc
others_fail false b is = is

pub no_records : (objects : List (Option (List ℕ))) (which : ℕ) → list_any has_record objects ≡ false → records_of (get_or objects which None) ≡ []
no_records [] which is = no_record None refl
no_records (object ∷ objects) zero is = no_record object (first_fails (has_record object) (list_any has_record objects) is)
no_records (object ∷ objects) (suc which) is = no_records objects which (others_fail (has_record object) (list_any has_record objects) is)
