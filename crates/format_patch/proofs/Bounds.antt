-- Each word that a format writes is one of 64 bits.
use Rattle.std.proofs.Common.{◌≡◌, ℕ, zero, suc, ◌+◌, ◌*◌, ◌/◌, ◌%◌, ◌^◌, ◌<◌, ◌≤◌, Bool, true, false, List, [], ◌∷◌, ◌++◌, length, map, take, get_or, refl, sym, subst, inl, inr, arith}
use Rattle.std.specs.Prelude.{◌==◌}
use Rattle.std.specs.List.{range_with_len}
use Rattle.std.proofs.lemmas.Bool.{cases_lt, le-ltb, lt-ltb}
use Rattle.std.proofs.lemmas.List.{get_or_past}
use Rattle.std.proofs.lemmas.Nat.{from_le_bytes-to_le_bytes_8}
use Rattle.nvd_words.specs.Bytes.{AreBytes}
use Rattle.nvd_words.proofs.ByteLists.{eight_below}
use Rattle.cut_words.specs.WordBytes.{bytes_of, words_in}
use Rattle.arena_layout.specs.declared.layout.Layout.{Layout}
use Rattle.arena_layout.specs.Layout.{IsLayout}
use Rattle.arena_open.specs.Areas.{new_entry, new_group_word, new_log, new_log_word, new_map, new_map_word}
use Rattle.arena_open.specs.Format.{log_count, map_count}
use Rattle.arena_open.proofs.Bytes.{word_index}
use Rattle.image_set.specs.Sound.{AreWords}
use Rattle.format_patch.specs.Format.{words_behind}

entry_small : (external sector : ℕ) → external ≤ 2 ^ 30 → new_entry external sector < 2 ^ 32
entry_small external sector few = elim (cases_lt sector external) [
  | inl lt ↦ subst (λ (n : ℕ). n < 2 ^ 32) (sym (let e : new_entry external sector ≡ 2 ^ 31 + sector = rw (lt-ltb sector external lt) refl in e)) (omega (arith, lt, few))
  | inr past ↦ subst (λ (n : ℕ). n < 2 ^ 32) (sym (let e : new_entry external sector ≡ 0 = rw (le-ltb sector external past) refl in e)) (omega arith)
]

map_small : (external i : ℕ) → external ≤ 2 ^ 30 → new_map_word external i < 2 ^ 64
map_small external i few = omega (arith, entry_small external (2 * i) few, entry_small external (2 * i + 1) few)

group_small : (external lane k : ℕ) → external ≤ 2 ^ 30 → lane < 256 → new_group_word external lane k < 2 ^ 64
group_small external lane k few lt = by (k == 0) refl
  where
    by_one : (b : Bool) → (k == 1) ≡ b → (k == 0) ≡ false → new_group_word external lane k < 2 ^ 64
    by_one true one none = subst (λ (n : ℕ). n < 2 ^ 64) (sym (let e : new_group_word external lane k ≡ external + lane + 2 ^ 32 * 1 = rw (none, one) refl in e)) (omega (arith, few, lt))
    by_one false other none = subst (λ (n : ℕ). n < 2 ^ 64) (sym (let e : new_group_word external lane k ≡ 0 = rw (none, other) refl in e)) (omega arith)

    by : (b : Bool) → (k == 0) ≡ b → new_group_word external lane k < 2 ^ 64
    by true zeroth = subst (λ (n : ℕ). n < 2 ^ 64) (sym (let e : new_group_word external lane k ≡ lane + 2 ^ 32 * (external + lane) = rw zeroth refl in e)) (omega (arith, few, lt))
    by false other = by_one (k == 1) refl other

log_small : (external lanes j : ℕ) → external ≤ 2 ^ 30 → lanes ≤ 256 → new_log_word external lanes j < 2 ^ 64
log_small external lanes j few most = elim (cases_lt (j / 8) lanes) [
  | inl lt ↦ subst (λ (n : ℕ). n < 2 ^ 64) (sym (let e : new_log_word external lanes j ≡ new_group_word external (j / 8) (j % 8) = rw (lt-ltb (j / 8) lanes lt) refl in e)) (group_small external (j / 8) (j % 8) few (omega (arith, lt, most)))
  | inr past ↦ subst (λ (n : ℕ). n < 2 ^ 64) (sym (let e : new_log_word external lanes j ≡ 0 = rw (le-ltb (j / 8) lanes past) refl in e)) (omega arith)
]

-- ---- lists of them

cons_words : (x : ℕ) (xs : List ℕ) → x < 2 ^ 64 → AreWords xs → AreWords (x ∷ xs)
cons_words x xs small are = record { each = each }
  where
    each : (i : ℕ) → get_or (x ∷ xs) i 0 < 2 ^ 64
    each zero = small
    each (suc i) = are.each i

map_words : (f : ℕ → ℕ) → ((i : ℕ) → f i < 2 ^ 64) → (xs : List ℕ) → AreWords (map f xs)
map_words f small [] = record { each = λ i. omega arith }
map_words f small (x ∷ xs) = cons_words (f x) (map f xs) (small x) (map_words f small xs)

both_words : (xs ys : List ℕ) → AreWords xs → AreWords ys → AreWords (xs ++ ys)
both_words [] ys a b = b
both_words (x ∷ xs) ys a b = cons_words x (xs ++ ys) (a.each 0) (both_words xs ys (record { each = λ j. a.each (suc j) }) b)

pub take_words : (k : ℕ) (xs : List ℕ) → AreWords xs → AreWords (take k xs)
take_words zero xs a = record { each = λ i. omega arith }
take_words (suc k) [] a = record { each = λ i. omega arith }
take_words (suc k) (x ∷ xs) a = cons_words x (take k xs) (a.each 0) (take_words k xs (record { each = λ j. a.each (suc j) }))

pub byte_words : (bytes : List ℕ) → AreBytes bytes → AreWords (words_in bytes)
byte_words bytes fit = record {
  each = λ i. elim (cases_lt i (length (words_in bytes))) [
    | inl lt ↦ subst (λ (n : ℕ). n < 2 ^ 64) (sym (word_index bytes i lt)) (eight_below bytes (8 * i) fit)
    | inr past ↦ subst (λ (n : ℕ). n < 2 ^ 64) (sym (get_or_past (words_in bytes) i 0 past)) (omega arith)
  ];
}

pub behind_words : (l : Layout) (block : List ℕ) → IsLayout l → AreWords block → AreWords (words_behind l block)
behind_words l block ok fit =
    let few : l.external ≤ 2 ^ 30 = omega (arith, ok.internal_is, ok.internal_few) in
    both_words (new_map l.external (map_count l)) (new_log l.external l.lanes (log_count l) ++ block)
    (map_words (new_map_word l.external) (λ i. map_small l.external i few) (range_with_len 0 (map_count l)))
    (both_words (new_log l.external l.lanes (log_count l)) block
    (map_words (new_log_word l.external l.lanes) (λ j. log_small l.external l.lanes j few ok.lanes_few) (range_with_len 0 (log_count l))) fit)

-- words, as bytes and back
pub words_back : (words : List ℕ) → AreWords words → words_in (bytes_of words) ≡ words
words_back [] fit = refl
words_back (w ∷ words) fit =
    λ i. from_le_bytes-to_le_bytes_8 w (fit.each 0) i ∷ words_back words (record { each = λ k. fit.each (suc k) }) i
