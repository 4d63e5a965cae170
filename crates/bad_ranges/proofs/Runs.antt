-- Words of a namespace that are contiguous in a module, and the records that have bytes there.
use Rattle.std.proofs.Common.{◌≡◌, ℕ, ◌+◌, ◌-◌, ◌*◌, ◌/◌, ◌<◌, ◌≤◌, min, max, Bool, true, false, List, [], ◌∷◌, get_or, Option, Some, None, refl, sym, ap, ◌∙◌, arith, inl, inr}
use Rattle.std.specs.Prelude.{◌&&◌, ◌||◌, nat_lt}
use Rattle.std.specs.List.{list_any, range_with_len}
use Rattle.std.proofs.lemmas.Bool.{cases_Bool}
use Rattle.std.proofs.lemmas.Bool.Decides.{nat_tests}
use Rattle.interleave.specs.Places.{LiesAt}
use Rattle.power_cut.specs.Namespace.{Namespace, IsLaid, IsWordRun, byte_at, count_of, place_of}
use Rattle.power_cut.proofs.Places.{place_is}
use Rattle.bad_ranges.specs.declared.ranges.BadRange.{BadRange}
use Rattle.bad_ranges.specs.Bad.{bad_words, has_bytes, has_record, is_met, meets, records_of}
use Rattle.bad_ranges.proofs.Records.{any_here, no_records, none_here}

-- ---- tests

pub is_lt : (a b : ℕ) → nat_lt a b ≡ true → a < b
is_lt a b is = grind (arith, nat_tests)

pub lt_is : (a b : ℕ) → a < b → nat_lt a b ≡ true
lt_is a b lt = grind (arith, nat_tests)

is_le : (a b : ℕ) → nat_lt a b ≡ false → b ≤ a
is_le a b is = grind (arith, nat_tests)

pub le_is : (a b : ℕ) → b ≤ a → nat_lt a b ≡ false
le_is a b le = grind (arith, nat_tests)

pub and_false : (b : Bool) → (b && false) ≡ false
and_false true = refl
and_false false = refl

-- ---- one record

narrower : (from to from' to' : ℕ) (range : BadRange) → from ≤ from' → to' ≤ to → has_bytes from to range ≡ false → has_bytes from' to' range ≡ false
narrower from to from' to' range le le' fails =
    let none : min to (range.start + range.length) ≤ max from range.start = is_le (max from range.start) (min to (range.start + range.length)) fails in
    le_is (max from' range.start) (min to' (range.start + range.length)) (omega arith)

-- a record with bytes in words has bytes in one of them
word_met : (k count : ℕ) (range : BadRange) → has_bytes (8 * k) (8 * k + 8 * count) range ≡ true → (j : ℕ) × (j < count) × (meets (8 * (k + j)) range ≡ true)
word_met k count range passes =
    let some : max (8 * k) range.start < min (8 * k + 8 * count) (range.start + range.length) =
    is_lt (max (8 * k) range.start) (min (8 * k + 8 * count) (range.start + range.length)) passes in
    let j : ℕ = max (8 * k) range.start / 8 - k in
    let here : 8 * (k + j) ≤ max (8 * k) range.start = omega (arith, some) in
    let there : max (8 * k) range.start < 8 * (k + j) + 8 = omega (arith, some) in (
      j,
      omega (arith, some, here),
      lt_is (max (8 * (k + j)) range.start) (min (8 * (k + j) + 8) (range.start + range.length)) (omega (arith, some, here, there)),
    )

-- ---- records

none_narrower : (ranges : List BadRange) (from to from' to' : ℕ) → from ≤ from' → to' ≤ to → list_any (has_bytes from to) ranges ≡ false → list_any (has_bytes from' to') ranges ≡ false
none_narrower [] from to from' to' le le' fails = refl
none_narrower (range ∷ ranges) from to from' to' le le' fails = elim (cases_Bool (has_bytes from to range)) [
  | inl passes ↦ absurd (let e = rw passes at fails in cc)
  | inr here ↦
      let others : list_any (has_bytes from to) ranges ≡ false = rw here at fails in
      rw (narrower from to from' to' range le le' here) (none_narrower ranges from to from' to' le le' others)
]

or_true : (b : Bool) → (b || true) ≡ true
or_true true = refl
or_true false = refl

word_found : (ranges : List BadRange) (k count : ℕ) → list_any (has_bytes (8 * k) (8 * k + 8 * count)) ranges ≡ true
    → (j : ℕ) × (j < count) × (list_any (meets (8 * (k + j))) ranges ≡ true)
word_found [] k count passes = absurd cc
word_found (range ∷ ranges) k count passes = elim (cases_Bool (has_bytes (8 * k) (8 * k + 8 * count) range)) [
  | inl here ↦
      let word = word_met k count range here in
      (word.0, word.1, ap (λ b. b || list_any (meets (8 * (k + word.0))) ranges) word.2)
  | inr fails ↦
      let word = word_found ranges k count (rw fails at passes) in
      (word.0, word.1, ap (λ b. meets (8 * (k + word.0)) range || b) word.2 ∙ or_true (meets (8 * (k + word.0)) range))
]

-- ---- the words of a namespace

-- a word is bad by the records at its place
pub bad_at : (n : Namespace) (objects : List (Option (List ℕ))) (i which address : ℕ) → IsLaid n → i < count_of n → LiesAt n.set (byte_at n i) which address
    → bad_words n objects i ≡ list_any (meets address) (records_of (get_or objects which None))
unfolding bad_words
bad_at n objects i which address laid lt lies =
    ap (λ b. b && is_met objects (place_of n.set (byte_at n i))) (lt_is i (count_of n) lt) ∙ ap (is_met objects) (place_is n (byte_at n i) which address laid lies)

pub past_end : (n : Namespace) (objects : List (Option (List ℕ))) (i : ℕ) → count_of n ≤ i → bad_words n objects i ≡ false
unfolding bad_words
past_end n objects i le = ap (λ b. b && is_met objects (place_of n.set (byte_at n i))) (le_is i (count_of n) le)

none_met : (objects : List (Option (List ℕ))) (place : Option (ℕ × ℕ)) → list_any has_record objects ≡ false → is_met objects place ≡ false
none_met objects None none = refl
none_met objects (Some place) none = ap (list_any (meets place.1)) (no_records objects place.0 none)

-- without a record no word is bad
pub none_bad : (n : Namespace) (objects : List (Option (List ℕ))) (i : ℕ) → list_any has_record objects ≡ false → bad_words n objects i ≡ false
unfolding bad_words
none_bad n objects i none = ap (λ b. nat_lt i (count_of n) && b) (none_met objects (place_of n.set (byte_at n i)) none) ∙ and_false (nat_lt i (count_of n))

-- the records with bytes in contiguous words tell whether one of the words is bad
pub run_is : (n : Namespace) (objects : List (Option (List ℕ))) (i which k count : ℕ) → IsLaid n → i + count ≤ count_of n → IsWordRun n i which k count
    → list_any (has_bytes (8 * k) (8 * k + 8 * count)) (records_of (get_or objects which None)) ≡ list_any (bad_words n objects) (range_with_len i count)
run_is n objects i which k count laid inside run =
    let ranges : List BadRange = records_of (get_or objects which None) in
    elim (cases_Bool (list_any (has_bytes (8 * k) (8 * k + 8 * count)) ranges)) [
      | inl passes ↦
          let word = word_found ranges k count passes in
          let bad : bad_words n objects (i + word.0) ≡ true = bad_at n objects (i + word.0) which (8 * (k + word.0)) laid (omega (arith, inside, word.1)) (run word.0 word.1) ∙ word.2 in
          passes ∙ sym (any_here (bad_words n objects) i count (i + word.0) (omega arith) (omega (arith, word.1)) bad)
      | inr fails ↦ fails ∙ sym (none_here (bad_words n objects) i count (λ j le lt.
          let part : ℕ = j - i in
          let at : i + part ≡ j = omega (arith, le) in
          ap (bad_words n objects) (sym at)
          ∙ bad_at n objects (i + part) which (8 * (k + part)) laid (omega (arith, inside, lt, at)) (run part (omega (arith, at, lt)))
          ∙ none_narrower ranges (8 * k) (8 * k + 8 * count) (8 * (k + part)) (8 * (k + part) + 8) (omega arith) (omega (arith, at, lt)) fails))
    ]
