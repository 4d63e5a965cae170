-- The places of a change's words.
use Rattle.std.proofs.Common.{◌≡◌, ◌≢◌, ◌⊎◌, ℕ, zero, suc, ◌+◌, ◌-◌, ◌*◌, ◌/◌, ◌<◌, ◌≤◌, List, ◌∷◌, ◌++◌, length, take, drop, get_or, Option, Some, None, Bool, true, false, refl, ap, ◌∙◌, arith, inl, inr}
use Rattle.std.specs.List.{range_with_len, All}
use Rattle.std.proofs.lemmas.Bool.{cases_lt}
use Rattle.std.proofs.lemmas.List.{get_or_past, length-append}
use Rattle.std.proofs.lemmas.List.FromFn.{get_or-range_with_len, length-range_with_len}
use Rattle.std.proofs.lemmas.List.Elements.{All-nil, All-cons}
use Rattle.cut_words.specs.WordBytes.{bytes_of, words_in}
use Rattle.cut_words.specs.Groups.{NotIn, group, written}
use Rattle.cut_words.proofs.Put.{put_outside, put_bytes, length_put, length_words}
use Rattle.cut_words.proofs.Guarded.{length_group}
use Rattle.label_codec.specs.declared.label.Label.{Label}
use Rattle.label_codec.specs.Label.{spelling_of as label_spelling}
use Rattle.label_index.specs.declared.index.Side.{Side}
use Rattle.label_index.specs.Index.{place_of}
use Rattle.label_area.specs.Change.{guard_of, guarded_by, words_of_slot, closed_word, slot_of_put, with_label, change_steps, count_of_steps, IsFreeSlot}
use Rattle.label_area.proofs.Spellings.{IsSpelledLabel}

pub range_out : (a n i : ℕ) → NotIn (range_with_len a n) i → (i < a) ⊎ (a + n ≤ i)
range_out a n i out =
    elim (cases_lt i a) [
      | inl below ↦ inl below
      | inr from ↦ elim (cases_lt i (a + n)) [
        | inl to ↦ absurd (out (i - a) 0 (omega (arith, length-range_with_len a n)) (get_or-range_with_len a n (i - a) 0 (omega arith) ∙ omega arith))
        | inr above ↦ inr above
      ]
    ]

pub range_below : (a n top : ℕ) → a + n ≤ top → All (λ p. p < top) (range_with_len a n)
range_below a n top le k d lt =
    let low : k < n = omega (arith, length-range_with_len a n) in
    let at : get_or (range_with_len a n) k d ≡ a + k = get_or-range_with_len a n k d low in
    omega arith

-- ---- a block

pub block_out : (size : ℕ) (s : Side) (i : ℕ) → 256 ≤ size → NotIn (guarded_by size s) i → i ≢ guard_of size s → (i < place_of size s / 8) ⊎ (place_of size s / 8 + size / 8 ≤ i)
block_out size s i enough out other =
    let first : place_of size s / 8 ≢ i = out zero 0 (omega arith) in
    let second : place_of size s / 8 + 1 ≢ i = out (suc zero) 0 (omega arith) in
    elim (range_out (place_of size s / 8 + 3) (size / 8 - 3) i (λ k d lt. out (suc (suc k)) d (omega arith))) [
      | inl below ↦ inl (omega arith)
      | inr above ↦ inr (omega arith)
    ]

pub guard_apart : (size : ℕ) (s : Side) → 256 ≤ size → NotIn (guarded_by size s) (guard_of size s)
guard_apart size s enough =
    All-cons (λ p. p ≢ guard_of size s) (place_of size s / 8) ((place_of size s / 8 + 1) ∷ range_with_len (place_of size s / 8 + 3) (size / 8 - 3)) (λ e. absurd (omega arith))
    (All-cons (λ p. p ≢ guard_of size s) (place_of size s / 8 + 1) (range_with_len (place_of size s / 8 + 3) (size / 8 - 3)) (λ e. absurd (omega arith))
    (λ k d lt e. let low : k < size / 8 - 3 = omega (arith, length-range_with_len (place_of size s / 8 + 3) (size / 8 - 3)) in
    let at : get_or (range_with_len (place_of size s / 8 + 3) (size / 8 - 3)) k d ≡ place_of size s / 8 + 3 + k = get_or-range_with_len (place_of size s / 8 + 3) (size / 8 - 3) k d low in
    absurd (omega arith)))

pub guarded_below : (size : ℕ) (s : Side) (top : ℕ) → 256 ≤ size → place_of size s / 8 + size / 8 ≤ top → All (λ p. p < top) (guarded_by size s)
guarded_below size s top enough le =
    All-cons (λ p. p < top) (place_of size s / 8) ((place_of size s / 8 + 1) ∷ range_with_len (place_of size s / 8 + 3) (size / 8 - 3)) (omega arith)
    (All-cons (λ p. p < top) (place_of size s / 8 + 1) (range_with_len (place_of size s / 8 + 3) (size / 8 - 3)) (omega arith)
    (range_below (place_of size s / 8 + 3) (size / 8 - 3) top (omega arith)))

pub length_guarded : (size : ℕ) (s : Side) → 256 ≤ size → length (guarded_by size s) ≡ size / 8 - 1
length_guarded size s enough = omega (arith, length-range_with_len (place_of size s / 8 + 3) (size / 8 - 3))

pub length_slot : (size : ℕ) (put : Option Label) → 2 * length (words_of_slot size (slot_of_put put)) + (2 * (size / 8) + 2) ≡ count_of_steps size put
length_slot size None = omega arith
length_slot size (Some l) = omega (arith, length-range_with_len (2 * size / 8 + 32 * l.slot) 32)

pub length_change : (final : List ℕ) (size : ℕ) (s : Side) (put : Option Label) → 256 ≤ size → length (change_steps final size s (slot_of_put put)) ≡ count_of_steps size put
length_change final size s put enough =
    let g : ℕ = guard_of size s in
    let closed : ℕ = closed_word (get_or final (guard_of size s) 0) in
    let before : List ℕ = words_of_slot size (slot_of_put put) in
    let rest : List ℕ = guarded_by size s in
    length-append (group final (words_of_slot size (slot_of_put put))) (written g closed ++ (group final (guarded_by size s) ++ written g (get_or final (guard_of size s) 0)))
    ∙ omega (
      arith,
      length_group final (words_of_slot size (slot_of_put put)),
      length_group final (guarded_by size s),
      length_guarded size s enough,
      length_slot size put,
      length-append (written g closed) (group final (guarded_by size s) ++ written g (get_or final (guard_of size s) 0)),
      length-append (group final (guarded_by size s)) (written g (get_or final (guard_of size s) 0)),
    )

-- ---- a label

-- the label to put has room, and its encoding encodes it
abbrev pub PutFits : ℕ → Option Label → ℕ → Type 0
PutFits size put count = (l : Label) → put ≡ Some l → (2 * size / 8 + 32 * l.slot + 32 ≤ count) × IsSpelledLabel l

pub words_of_label : (l : Label) → IsSpelledLabel l → length (words_in (label_spelling l)) ≡ 32
words_of_label l ok = omega (arith, length_words (label_spelling l) (omega (arith, ok.len)) ok.bytes, ok.len)

pub length_labelled : (size : ℕ) (put : Option Label) (words : List ℕ) → PutFits size put (length words) → length (with_label size put words) ≡ length words
length_labelled size None words fits = refl
length_labelled size (Some l) words fits =
    let f = fits l refl in
    length_put words (2 * size / 8 + 32 * l.slot) (words_in (label_spelling l)) (omega (arith, f.0, words_of_label l f.1))

pub labelled_outside : (size : ℕ) (put : Option Label) (words : List ℕ) (i : ℕ) → PutFits size put (length words) → NotIn (words_of_slot size (slot_of_put put)) i
    → get_or (with_label size put words) i 0 ≡ get_or words i 0
labelled_outside size None words i fits out = refl
labelled_outside size (Some l) words i fits out =
    let f = fits l refl in
    let count : length (words_in (label_spelling l)) ≡ 32 = words_of_label l f.1 in
    put_outside words (2 * size / 8 + 32 * l.slot) (words_in (label_spelling l)) i (omega (arith, f.0))
    (elim (range_out (2 * size / 8 + 32 * l.slot) 32 i out) [ inl below ↦ inl below | inr above ↦ inr (omega arith) ])

pub label_there : (size : ℕ) (l : Label) (words : List ℕ) → PutFits size (Some l) (length words)
    → take (8 * 32) (drop (8 * (2 * size / 8 + 32 * l.slot)) (bytes_of (with_label size (Some l) words))) ≡ label_spelling l
label_there size l words fits =
    let f = fits l refl in
    put_bytes words (2 * size / 8 + 32 * l.slot) (label_spelling l) 32 f.0 f.1.len f.1.bytes

pub slot_below : (size : ℕ) (put : Option Label) (words : List ℕ) → PutFits size put (length words) → All (λ p. p < length words) (words_of_slot size (slot_of_put put))
slot_below size None words fits = All-nil (λ p. p < length words)
slot_below size (Some l) words fits = range_below (2 * size / 8 + 32 * l.slot) 32 (length words) (fits l refl).0

-- a free slot is one of the block's
pub slot_inside : (free : List Bool) (put : Option Label) (l : Label) → IsFreeSlot free (slot_of_put put) → put ≡ Some l → l.slot < length free
slot_inside free put l ok is =
    elim (cases_lt l.slot (length free)) [
      | inl lt ↦ lt
      | inr past ↦ let t : get_or free l.slot false ≡ true = ok l.slot (ap slot_of_put is) in let f : get_or free l.slot false ≡ false = get_or_past free l.slot false past in absurd (cc)
    ]
