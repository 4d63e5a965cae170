-- The words of bytes of which each is changed by itself.
use Rattle.std.proofs.Common.{◌≡◌, ℕ, zero, suc, ◌+◌, ◌*◌, ◌/◌, ◌%◌, ◌<◌, ◌≤◌, List, length, map, take, drop, get_or, sym, ap, ◌∙◌, arith}
use Rattle.std.specs.Int.{byte_worth, sum_through}
use Rattle.std.specs.List.{range_with_len}
use Rattle.std.proofs.lemmas.List.{ext_get_or, get_or-drop, get_or-take}
use Rattle.std.proofs.lemmas.List.FromFn.{get_or-map-range_with_len, length-map-range_with_len}
use Rattle.std.proofs.lemmas.Nat.{div-add-mod', div-mul-add, mod-mul-add, mod_below}
use Rattle.nvd_words.specs.Bytes.{number_at}
use Rattle.cut_words.specs.WordBytes.{words_in}
use Rattle.arena_open.proofs.Bytes.{length_words, word_index}
use Rattle.namespace_bytes.specs.Changed.{changed_from}

-- ---- eight bytes as a number

-- the word of eight bytes, low byte first
abbrev pub word_by : (ℕ → ℕ) → ℕ
word_by byte = sum_through (λ i. byte_worth i (byte i)) 7

pub sums_same : (f g : ℕ → ℕ) (n : ℕ) → ((j : ℕ) → j ≤ n → f j ≡ g j) → sum_through f n ≡ sum_through g n
sums_same f g zero same = same 0 (omega arith)
sums_same f g (suc n) same =
    let before : sum_through f n ≡ sum_through g n = sums_same f g n (λ j le. same j (omega (arith, le))) in
    let last : f (suc n) ≡ g (suc n) = same (suc n) (omega arith) in
    λ i. before i + last i

pub words_same : (f g : ℕ → ℕ) → ((j : ℕ) → j < 8 → f j ≡ g j) → word_by f ≡ word_by g
words_same f g same = sums_same (λ i. byte_worth i (f i)) (λ i. byte_worth i (g i)) 7 (λ j le. ap (byte_worth j) (same j (omega (arith, le))))

-- a word of bytes
pub word_is : (row : List ℕ) (k : ℕ) → 8 * k + 8 ≤ length row → get_or (words_in row) k 0 ≡ word_by (λ j. get_or row (8 * k + j) 0)
unfolding number_at
word_is row k fits =
    word_index row k (omega (arith, fits, length_words row))
    ∙ words_same (λ j. get_or (take 8 (drop (8 * k) row)) j 0) (λ j. get_or row (8 * k + j) 0)
    (λ j lt. get_or-take 8 (drop (8 * k) row) j 0 lt ∙ get_or-drop (8 * k) row j 0)

-- ---- bytes that are changed

-- each byte of a namespace
abbrev pub changed : (ℕ → ℕ → ℕ) → List ℕ → List ℕ
changed new row = map (λ i. new i (get_or row i 0)) (range_with_len 0 (length row))

pub length_changed : (new : ℕ → ℕ → ℕ) (row : List ℕ) → length (changed new row) ≡ length row
length_changed new row = length-map-range_with_len (λ i. new i (get_or row i 0)) 0 (length row)

pub at_changed : (new : ℕ → ℕ → ℕ) (row : List ℕ) (i : ℕ) → i < length row → get_or (changed new row) i 0 ≡ new i (get_or row i 0)
at_changed new row i lt = get_or-map-range_with_len (λ i. new i (get_or row i 0)) 0 (length row) i i 0 lt (omega arith)

pub changed_same : (f g : ℕ → ℕ → ℕ) (row : List ℕ) → ((i : ℕ) → i < length row → f i (get_or row i 0) ≡ g i (get_or row i 0)) → changed f row ≡ changed g row
changed_same f g row same =
    ext_get_or 0 (changed f row) (changed g row) (length_changed f row ∙ sym (length_changed g row)) (λ i lt.
    let inside : i < length row = omega (arith, lt, length_changed f row) in
    at_changed f row i inside ∙ same i inside ∙ sym (at_changed g row i inside))

-- as a piece that begins with the first byte
pub from_first : (new : ℕ → ℕ → ℕ) (row : List ℕ) → changed_from new 0 row ≡ changed new row
from_first new row = changed_same (λ k old. new (0 + k) old) new row (λ i lt. ap (λ (n : ℕ). new n (get_or row i 0)) (let e : 0 + i ≡ i = omega arith in e))

-- one change after another
pub changed_twice : (f g : ℕ → ℕ → ℕ) (row : List ℕ) → changed g (changed f row) ≡ changed (λ i old. g i (f i old)) row
changed_twice f g row =
    ext_get_or 0 (changed g (changed f row)) (changed (λ i old. g i (f i old)) row)
    (length_changed g (changed f row) ∙ length_changed f row ∙ sym (length_changed (λ i old. g i (f i old)) row)) (λ i lt.
    let inside : i < length row = omega (arith, lt, length_changed g (changed f row), length_changed f row) in
    at_changed g (changed f row) i (omega (arith, inside, length_changed f row)) ∙ ap (g i) (at_changed f row i inside)
    ∙ sym (at_changed (λ i old. g i (f i old)) row i inside))

pub changed_word : (new : ℕ → ℕ → ℕ) (row : List ℕ) (k : ℕ) → 8 * k + 8 ≤ length row
    → get_or (words_in (changed new row)) k 0 ≡ word_by (λ j. new (8 * k + j) (get_or row (8 * k + j) 0))
changed_word new row k fits =
    word_is (changed new row) k (omega (arith, fits, length_changed new row))
    ∙ words_same (λ j. get_or (changed new row) (8 * k + j) 0) (λ j. new (8 * k + j) (get_or row (8 * k + j) 0))
    (λ j lt. at_changed new row (8 * k + j) (omega (arith, lt, fits)))

-- bytes that make these words
pub changed_words : (new : ℕ → ℕ → ℕ) (row words : List ℕ) → length words ≡ length row / 8
    → ((k : ℕ) → 8 * k + 8 ≤ length row → word_by (λ j. new (8 * k + j) (get_or row (8 * k + j) 0)) ≡ get_or words k 0)
    → words_in (changed new row) ≡ words
changed_words new row words long each =
    let count : length (words_in (changed new row)) ≡ length row / 8 = length_words (changed new row) ∙ ap (λ (n : ℕ). n / 8) (length_changed new row) in
    ext_get_or 0 (words_in (changed new row)) words (count ∙ sym long) (λ k lt.
    let fits : 8 * k + 8 ≤ length row = omega (arith, lt, count) in
    changed_word new row k fits ∙ each k fits)

-- ---- places

-- a byte of a word, in blocks of m words
pub in_blocks : (q m j : ℕ) → 0 < m → j < 8 → ((8 * q + j) / (8 * m) ≡ q / m) × ((8 * q + j) % (8 * m) ≡ 8 * (q % m) + j)
in_blocks q m j some lt =
    let inner : q % m < m = mod_below q m some in
    let low : 8 * (q % m) + j < 8 * m = omega (arith, inner, lt) in
    let parts : 8 * q + j ≡ q / m * (8 * m) + (8 * (q % m) + j) = omega (arith, div-add-mod' q m) in (
      ap (λ (n : ℕ). n / (8 * m)) parts ∙ div-mul-add (q / m) (8 * m) (8 * (q % m) + j) low,
      ap (λ (n : ℕ). n % (8 * m)) parts ∙ mod-mul-add (q / m) (8 * m) (8 * (q % m) + j) low,
    )
