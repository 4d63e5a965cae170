-- Flags in the bits of words.
use Rattle.std.proofs.Common.{◌≡◌, ◌≢◌, ℕ, ◌*◌, ◌/◌, ◌%◌, ◌^◌, ◌<◌, ◌≤◌, Bool, true, false, eqb, List, length, get_or, replicate, sym, ap, ◌∙◌, arith, inl, inr}
use Rattle.std.specs.Prelude.{bit_and, bit_or}
use Rattle.std.specs.Int.{bit_at, bit_not, w64}
use Rattle.std.proofs.Math.ListN.{set}
use Rattle.std.proofs.lemmas.Bool.{cases_eq}
use Rattle.std.proofs.lemmas.Nat.{and_mask}
use Rattle.std.proofs.lemmas.Nat.Bits.{bit_at-zero, bit_at_set_same, bit_at_set_other, bit_at_clear_same, bit_at_clear_other}
use Rattle.std.proofs.lemmas.List.{ext_get_or, get_or-set_same, get_or-set_other, get_or-replicate, get_or_read, length-set, length-replicate}
use Rattle.std.proofs.lemmas.List.FromFn.{length-map-range_with_len, get_or-map-range_with_len}
use Rattle.nvd_words.specs.Bits.{flag_at, flags_of}

pub length_flags : (words : List ℕ) (count : ℕ) → length (flags_of words count) ≡ count
length_flags words count = length-map-range_with_len (flag_at words) 0 count

pub flag_is : (words : List ℕ) (count i : ℕ) → i < count → get_or (flags_of words count) i false ≡ flag_at words i
flag_is words count i lt = get_or-map-range_with_len (flag_at words) 0 count i i false lt (omega arith)

-- the word of a flag lies inside
pub word_inside : (count i n : ℕ) → i < count → count ≤ 64 * n → i / 64 < n
word_inside count i n lt fits = omega arith

-- words of zeros have no flag set
pub none_set : (n count : ℕ) → count ≤ 64 * n → flags_of (replicate n 0) count ≡ replicate count false
none_set n count fits =
    ext_get_or false (flags_of (replicate n 0) count) (replicate count false) (length_flags (replicate n 0) count ∙ sym (length-replicate {A = Bool} count false))
    (λ i lt.
    let inside : i < count = omega (arith, lt, length_flags (replicate n 0) count) in
    flag_is (replicate n 0) count i inside
    ∙ ap (λ (w : ℕ). eqb (bit_at w (i % 64)) 1) (get_or-replicate n (i / 64) 0 0 (word_inside count i n inside fits))
    ∙ ap (λ (b : ℕ). eqb b 1) (bit_at-zero (i % 64)) ∙ sym (get_or-replicate count i false false inside))

-- changing one flag's bit in its word changes that flag alone
changed : (words : List ℕ) (count i word : ℕ) (flag : Bool) → i < count → count ≤ 64 * length words → eqb (bit_at word (i % 64)) 1 ≡ flag
    → ((j : ℕ) → j < 64 → j ≢ i % 64 → bit_at word j ≡ bit_at (get_or words (i / 64) 0) j)
    → flags_of (set words (i / 64) word) count ≡ set (flags_of words count) i flag
changed words count i word flag lt fits here others =
    ext_get_or false (flags_of (set words (i / 64) word) count) (set (flags_of words count) i flag)
    (length_flags (set words (i / 64) word) count ∙ sym (length-set (flags_of words count) i flag ∙ length_flags words count))
    (λ j within.
    let inside : j < count = omega (arith, within, length_flags (set words (i / 64) word) count) in
    let place : i / 64 < length words = word_inside count i (length words) lt fits in
    let left : get_or (flags_of (set words (i / 64) word) count) j false ≡ flag_at (set words (i / 64) word) j = flag_is (set words (i / 64) word) count j inside in
    elim (cases_eq j i) [
      | inl same ↦
          left ∙ ap (flag_at (set words (i / 64) word)) same
          ∙ ap (λ (w : ℕ). eqb (bit_at w (i % 64)) 1) (get_or-set_same words (i / 64) word 0 place) ∙ here
          ∙ sym (ap (λ (k : ℕ). get_or (set (flags_of words count) i flag) k false) same ∙ get_or-set_same (flags_of words count) i flag false (omega (arith, length_flags words count)))
      | inr other ↦
          left ∙ apart words i j word other place others
          ∙ sym (get_or-set_other (flags_of words count) i j flag false other ∙ flag_is words count j inside)
    ])
  where
    apart : (words : List ℕ) (i j word : ℕ) → j ≢ i → i / 64 < length words → ((k : ℕ) → k < 64 → k ≢ i % 64 → bit_at word k ≡ bit_at (get_or words (i / 64) 0) k)
        → flag_at (set words (i / 64) word) j ≡ flag_at words j
    apart words i j word other place others =
        elim (cases_eq (j / 64) (i / 64)) [
          | inl same ↦
              ap (λ (p : ℕ). eqb (bit_at (get_or (set words (i / 64) word) p 0) (j % 64)) 1) same
              ∙ ap (λ (w : ℕ). eqb (bit_at w (j % 64)) 1) (get_or-set_same words (i / 64) word 0 place)
              ∙ ap (λ (b : ℕ). eqb b 1) (others (j % 64) (omega arith) (λ bits_same. other (omega (arith, same, bits_same))))
              ∙ sym (ap (λ (p : ℕ). eqb (bit_at (get_or words p 0) (j % 64)) 1) same)
          | inr away ↦ ap (λ (w : ℕ). eqb (bit_at w (j % 64)) 1) (get_or-set_other words (i / 64) (j / 64) word 0 away)
        ]

pub set_flag : (words : List ℕ) (count i : ℕ) → i < count → count ≤ 64 * length words
    → flags_of (set words (i / 64) (bit_or (get_or words (i / 64) 0) (1 * 2 ^ (i % 64) % 2 ^ 64))) count ≡ set (flags_of words count) i true
set_flag words count i lt fits =
    let was : ℕ = get_or words (i / 64) 0 in
    changed words count i (bit_or was (1 * 2 ^ (i % 64) % 2 ^ 64)) true lt fits
    (ap (λ (b : ℕ). eqb b 1) (bit_at_set_same w64 was (i % 64) (omega arith)))
    (λ j low other. bit_at_set_other w64 was (i % 64) (omega arith) j other)

pub clear_flag : (words : List ℕ) (count i : ℕ) → i < count → count ≤ 64 * length words
    → flags_of (set words (i / 64) (bit_and (get_or words (i / 64) 0) (bit_not w64 (1 * 2 ^ (i % 64) % 2 ^ 64)))) count ≡ set (flags_of words count) i false
clear_flag words count i lt fits =
    let was : ℕ = get_or words (i / 64) 0 in
    changed words count i (bit_and was (bit_not w64 (1 * 2 ^ (i % 64) % 2 ^ 64))) false lt fits
    (ap (λ (b : ℕ). eqb b 1) (bit_at_clear_same w64 was (i % 64) (omega arith)))
    (λ j low other. bit_at_clear_other w64 was (i % 64) (omega arith) j low other)

-- ---- in terms of the fields of a value and its view

pub in_count : (words : List ℕ) (count i : ℕ) (view : List Bool) → flags_of words count ≡ view → i < length view → i < count
in_count words count i view is lt = omega (arith, length_flags words count, ap length is)

pub in_words : (words : List ℕ) (count i n : ℕ) (view : List Bool) → flags_of words count ≡ view → i < length view → count ≤ 64 * n → i / 64 < n
in_words words count i n view is lt fits = word_inside count i n (in_count words count i view is lt) fits

pub flag_read : (words : List ℕ) (count i x : ℕ) (view : List Bool) → flags_of words count ≡ view → i < length view → count ≤ 64 * length words
    → x ≡ get_or words (i / 64) x → eqb (bit_and (x / 2 ^ (i % 64)) 1) 1 ≡ get_or view i false
flag_read words count i x view is lt fits read =
    let inside : i < count = in_count words count i view is lt in
    ap (λ (b : ℕ). eqb b 1) (and_mask (x / 2 ^ (i % 64)) 1)
    ∙ ap (λ (w : ℕ). eqb (bit_at w (i % 64)) 1) (get_or_read words (i / 64) x (word_inside count i (length words) inside fits) read 0)
    ∙ sym (flag_is words count i inside) ∙ ap (λ (fs : List Bool). get_or fs i false) is

pub flag_set : (words : List ℕ) (count i x : ℕ) (view : List Bool) → flags_of words count ≡ view → i < length view → count ≤ 64 * length words
    → x ≡ get_or words (i / 64) x → flags_of (set words (i / 64) (bit_or x (1 * 2 ^ (i % 64) % 2 ^ 64))) count ≡ set view i true
flag_set words count i x view is lt fits read =
    let inside : i < count = in_count words count i view is lt in
    ap (λ (w : ℕ). flags_of (set words (i / 64) (bit_or w (1 * 2 ^ (i % 64) % 2 ^ 64))) count) (get_or_read words (i / 64) x (word_inside count i (length words) inside fits) read 0)
    ∙ set_flag words count i inside fits ∙ ap (λ (fs : List Bool). set fs i true) is

pub flag_clear : (words : List ℕ) (count i x : ℕ) (view : List Bool) → flags_of words count ≡ view → i < length view → count ≤ 64 * length words
    → x ≡ get_or words (i / 64) x → flags_of (set words (i / 64) (bit_and x (bit_not w64 (1 * 2 ^ (i % 64) % 2 ^ 64)))) count ≡ set view i false
flag_clear words count i x view is lt fits read =
    let inside : i < count = in_count words count i view is lt in
    ap (λ (w : ℕ). flags_of (set words (i / 64) (bit_and w (bit_not w64 (1 * 2 ^ (i % 64) % 2 ^ 64)))) count) (get_or_read words (i / 64) x (word_inside count i (length words) inside fits) read 0)
    ∙ clear_flag words count i inside fits ∙ ap (λ (fs : List Bool). set fs i false) is
