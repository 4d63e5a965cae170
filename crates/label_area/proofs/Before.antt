-- Until a change is complete, an area reads as before after a crash.
use Rattle.std.proofs.Common.{◌≡◌, ◌≢◌, ◌⊎◌, ℕ, zero, suc, ◌+◌, ◌-◌, ◌*◌, ◌/◌, ◌%◌, ◌^◌, ◌<◌, ◌≤◌, List, [], ◌∷◌, length, take, drop, map, get_or, Ok, Err, Option, Some, None, Bool, true, false, refl, sym, ap, ◌∙◌, subst, arith, inl, inr}
use Rattle.std.specs.List.{enumerate_from, range_with_len}
use Rattle.std.proofs.lemmas.List.FromFn.{get_or-range_with_len, length-range_with_len}
use Rattle.std.proofs.lemmas.List.{get_or_default}
use Rattle.std.proofs.lemmas.List.Elements.{All-nil, All-cons}
use Rattle.std.specs.Result.{result_ok}
use Rattle.std.proofs.lemmas.Bool.{cases_order}
use Rattle.cut_words.specs.WordBytes.{bytes_of}
use Rattle.cut_words.specs.Groups.{NotIn}
use Rattle.cut_words.specs.Guarded.{IsBut, IsClosed, IsOld}
use Rattle.cut_words.proofs.Bytes.{length_bytes, same_bytes}
use Rattle.label_codec.specs.Label.{label_reading}
use Rattle.label_index.specs.declared.index.IndexBlock.{IndexBlock}
use Rattle.label_index.specs.declared.index.IndexFault.{IndexFault}
use Rattle.label_index.specs.declared.index.Side.{Side}
use Rattle.label_index.specs.declared.index.Side.TheVariants as side
use Rattle.label_index.specs.Area.{block_size_of, IsAreaSize}
use Rattle.label_index.specs.Index.{block_reading, index_reading, place_of}
use Rattle.label_index.proofs.Greatest.{slots_fit}
use Rattle.label_index.proofs.Closed.{closed_is_refused}
use Rattle.label_area.specs.Area.{SlotState, slot_at, slots_by, block_in, slots_with}
use Rattle.label_area.specs.Change.{guard_of, guarded_by, words_of_slot, opposite, IsFreeSlot}
use Rattle.label_area.specs.Whole.{Shows}
use Rattle.label_area.proofs.Closed.{closed_sequence}
use Rattle.label_area.proofs.Current.{one_of_two}
use Rattle.label_index.proofs.Grammar.{reads_grammar}
use Rattle.label_index.proofs.Laws.{read_is_valid}
use Rattle.label_index.specs.Valid.{IsValid}

-- ---- sizes

-- the size of a block in an area of words
pub record IsSized (words : List ℕ) (size : ℕ) : Type 0 where
  pub area : IsAreaSize (length (bytes_of words))
  pub is : block_size_of (length (bytes_of words)) ≡ size
  pub whole : size % 256 ≡ 0
  pub enough : 256 ≤ size
  pub inside : 2 * size ≤ 8 * length words

pub is_sized : (words : List ℕ) → IsAreaSize (length (bytes_of words)) → IsSized words (block_size_of (length (bytes_of words)))
is_sized words ok = record {
  area = ok;
  is = refl;
  whole = omega arith;
  enough = omega arith;
  inside = omega (arith, slots_fit (length (bytes_of words)) ok, length_bytes words);
}

pub sized_as : (left old : List ℕ) (size : ℕ) → length left ≡ length old → IsSized old size → IsSized left size
sized_as left old size same ok = record {
  area = subst IsAreaSize (length_bytes old ∙ ap (λ (n : ℕ). 8 * n) (sym same) ∙ sym (length_bytes left)) ok.area;
  is = ap block_size_of (length_bytes left ∙ ap (λ (n : ℕ). 8 * n) same ∙ sym (length_bytes old)) ∙ ok.is;
  whole = ok.whole;
  enough = ok.enough;
  inside = omega (arith, ok.inside);
}

-- ---- the reading of a side

pub place_whole : (size : ℕ) (s : Side) → size % 256 ≡ 0 → place_of size s ≡ 8 * (place_of size s / 8)
place_whole size side.Zero whole = refl
place_whole size side.One whole = omega arith

pub reading_is : (words : List ℕ) (size : ℕ) (s : Side) → IsSized words size
    → index_reading (bytes_of words) s ≡ block_reading (8 * length words) size s (take (8 * (size / 8)) (drop (8 * (place_of size s / 8)) (bytes_of words)))
reading_is words size s ok =
    ap (λ (n : ℕ). block_reading (length (bytes_of words)) n s (take n (drop (place_of n s) (bytes_of words)))) ok.is
    ∙ ap (λ (n : ℕ). block_reading n size s (take size (drop (place_of size s) (bytes_of words)))) (length_bytes words)
    ∙ ap (λ (n : ℕ). block_reading (8 * length words) size s (take n (drop (place_of size s) (bytes_of words)))) (omega (arith, ok.whole))
    ∙ ap (λ (n : ℕ). block_reading (8 * length words) size s (take (8 * (size / 8)) (drop n (bytes_of words)))) (place_whole size s ok.whole)

-- a side with the same words reads the same
pub same_reading : (left old : List ℕ) (size : ℕ) (s : Side) → length left ≡ length old → IsSized old size
    → ((i : ℕ) → place_of size s / 8 ≤ i → i < place_of size s / 8 + size / 8 → get_or left i 0 ≡ get_or old i 0)
    → index_reading (bytes_of left) s ≡ index_reading (bytes_of old) s
same_reading left old size s len ok same =
    reading_is left size s (sized_as left old size len ok)
    ∙ ap (λ (n : ℕ). block_reading (8 * n) size s (take (8 * (size / 8)) (drop (8 * (place_of size s / 8)) (bytes_of left)))) len
    ∙ ap (block_reading (8 * length old) size s) (same_bytes left old (place_of size s / 8) (size / 8) len same)
    ∙ sym (reading_is old size s ok)

-- a side that is closed isn't read
pub closed_reading : (left : List ℕ) (size : ℕ) (s : Side) → IsSized left size → get_or left (guard_of size s) 0 < 2 ^ 32
    → (fault : IndexFault) × (index_reading (bytes_of left) s ≡ Err fault)
closed_reading left size s ok low =
    let block : List ℕ = take (8 * (size / 8)) (drop (8 * (place_of size s / 8)) (bytes_of left)) in
    let refused : (fault : IndexFault) × (block_reading (8 * length left) size s block ≡ Err fault) =
    closed_is_refused (8 * length left) size s block (closed_sequence left (place_of size s / 8) (size / 8) (omega (arith, ok.enough)) low) in
    (refused.0, reading_is left size s ok ∙ refused.1)

-- ---- the slots

pub same_slots : (xs ys : List ℕ) (size k : ℕ) (free : List Bool)
    → ((i : ℕ) → i < length free → get_or free i true ≡ false → take 256 (drop (2 * size + 256 * (k + i)) xs) ≡ take 256 (drop (2 * size + 256 * (k + i)) ys))
    → map (slot_at xs size) (enumerate_from k free) ≡ map (slot_at ys size) (enumerate_from k free)
same_slots xs ys size k [] same = refl
same_slots xs ys size k (true ∷ free) same =
    ap (λ (slots : List SlotState). None ∷ slots) (same_slots xs ys size (k + 1) free
    (λ i lt used. subst (λ (n : ℕ). take 256 (drop (2 * size + 256 * n) xs) ≡ take 256 (drop (2 * size + 256 * n) ys)) (omega arith) (same (suc i) (omega arith) used)))
same_slots xs ys size k (false ∷ free) same =
    ap (λ (bytes : List ℕ). Some (result_ok (label_reading bytes k)) ∷ map (slot_at xs size) (enumerate_from (k + 1) free))
    (subst (λ (n : ℕ). take 256 (drop (2 * size + 256 * n) xs) ≡ take 256 (drop (2 * size + 256 * n) ys)) (omega arith) (same zero (omega arith) refl))
    ∙ ap (λ (slots : List SlotState). Some (result_ok (label_reading (take 256 (drop (2 * size + 256 * k) ys)) k)) ∷ slots) (same_slots xs ys size (k + 1) free
    (λ i lt used. subst (λ (n : ℕ). take 256 (drop (2 * size + 256 * n) xs) ≡ take 256 (drop (2 * size + 256 * n) ys)) (omega arith) (same (suc i) (omega arith) used)))

-- ---- the words of a change

not_in_range : (a n i : ℕ) → (i < a) ⊎ (a + n ≤ i) → NotIn (range_with_len a n) i
not_in_range a n i out k d lt e =
    let low : k < n = omega (arith, length-range_with_len a n) in
    let at : get_or (range_with_len a n) k d ≡ a + k = get_or-range_with_len a n k d low in
    elim out [ inl below ↦ absurd (omega arith) | inr above ↦ absurd (omega arith) ]

-- a word outside a block isn't one of its words
pub outside_block : (size : ℕ) (s : Side) (i : ℕ) → 256 ≤ size → (i < place_of size s / 8) ⊎ (place_of size s / 8 + size / 8 ≤ i)
    → NotIn (guarded_by size s) i × (i ≢ guard_of size s)
outside_block size s i enough out =
    let first : place_of size s / 8 ≢ i = λ e. elim out [ inl below ↦ absurd (omega arith) | inr above ↦ absurd (omega arith) ] in
    let second : place_of size s / 8 + 1 ≢ i = λ e. elim out [ inl below ↦ absurd (omega arith) | inr above ↦ absurd (omega arith) ] in
    let rest : (i < place_of size s / 8 + 3) ⊎ (place_of size s / 8 + 3 + (size / 8 - 3) ≤ i) = elim out [ inl below ↦ inl (omega arith) | inr above ↦ inr (omega arith) ] in (
      All-cons (λ p. p ≢ i) (place_of size s / 8) ((place_of size s / 8 + 1) ∷ range_with_len (place_of size s / 8 + 3) (size / 8 - 3)) first
          (All-cons (λ p. p ≢ i) (place_of size s / 8 + 1) (range_with_len (place_of size s / 8 + 3) (size / 8 - 3)) second
          (not_in_range (place_of size s / 8 + 3) (size / 8 - 3) i rest)),
      λ e. elim out [ inl below ↦ absurd (omega arith) | inr above ↦ absurd (omega arith) ],
    )

-- the other block's words and all words past both blocks are outside a block
pub other_block : (size : ℕ) (s : Side) (i : ℕ) → size % 256 ≡ 0 → place_of size s / 8 ≤ i → i < place_of size s / 8 + size / 8
    → (i < place_of size (opposite s) / 8) ⊎ (place_of size (opposite s) / 8 + size / 8 ≤ i)
other_block size side.Zero i whole low high = inl (omega arith)
other_block size side.One i whole low high = inr (omega arith)

pub past_blocks : (size : ℕ) (s : Side) (i : ℕ) → size % 256 ≡ 0 → 2 * size / 8 ≤ i → (i < place_of size s / 8) ⊎ (place_of size s / 8 + size / 8 ≤ i)
past_blocks size side.Zero i whole low = inr (omega arith)
past_blocks size side.One i whole low = inr (omega arith)

pub in_blocks : (size : ℕ) (s : Side) (i : ℕ) → size % 256 ≡ 0 → i < place_of size s / 8 + size / 8 → i < 2 * size / 8
in_blocks size side.Zero i whole high = omega arith
in_blocks size side.One i whole high = omega arith

pub below_slots : (size : ℕ) (slot : Option ℕ) (i : ℕ) → i < 2 * size / 8 → NotIn (words_of_slot size slot) i
below_slots size None i lt = All-nil (λ p. p ≢ i)
below_slots size (Some slot) i lt = not_in_range (2 * size / 8 + 32 * slot) 32 i (inl (omega arith))

pub other_slot : (size : ℕ) (free : List Bool) (slot : Option ℕ) (n i : ℕ) → IsFreeSlot free slot → n < length free → get_or free n true ≡ false
    → 2 * size / 8 + 32 * n ≤ i → i < 2 * size / 8 + 32 * n + 32 → NotIn (words_of_slot size slot) i
other_slot size free None n i ok lt used low high = All-nil (λ p. p ≢ i)
other_slot size free (Some slot) n i ok lt used low high =
    let apart : n ≢ slot = λ e. let f : get_or free n false ≡ true = ap (λ (k : ℕ). get_or free k false) e ∙ ok slot refl in let g : get_or free n true ≡ get_or free n false = get_or_default free n true false lt in absurd (cc) in
    not_in_range (2 * size / 8 + 32 * slot) 32 i
    (elim (cases_order n slot) [ inl e ↦ absurd (apart e) | inr more ↦ elim more [ inl below ↦ inl (omega arith) | inr above ↦ inr (omega arith) ] ])

-- ---- the words after a crash read as before

pub block_as : (left old : List ℕ) → index_reading left side.Zero ≡ index_reading old side.Zero → index_reading left side.One ≡ index_reading old side.One → block_in left ≡ block_in old
block_as left old lower upper = rw (lower, upper) refl

pub block_by : (area : List ℕ) (now : IndexBlock) (s : Side) (fault : IndexFault) → index_reading area s ≡ Ok now → index_reading area (opposite s) ≡ Err fault → block_in area ≡ Ok now
block_by area now side.Zero fault here there = rw (here, there) refl
block_by area now side.One fault here there = rw (here, there) refl

-- Seq of a valid block is 1, 2 or 3
pub record IsSeq (seq : ℕ) : Type 0 where
  pub low : 1 ≤ seq
  pub high : seq ≤ 3

-- the current block and its fields
pub record IsCurrent (words : List ℕ) (size : ℕ) (now : IndexBlock) : Type 0 where
  pub here : index_reading (bytes_of words) now.side ≡ Ok now
  pub sized : now.size ≡ size
  pub fits : 2 * size + 256 * length now.free ≤ 8 * length words
  pub seq : IsSeq now.seq
  pub valid : IsValid (8 * length words) now

pub is_current : (words : List ℕ) (size : ℕ) (now : IndexBlock) → IsSized words size → block_in (bytes_of words) ≡ Ok now → IsCurrent words size now
is_current words size now ok is =
    let read : (s : Side) → index_reading (bytes_of words) s ≡ Ok now → IsCurrent words size now =
    λ s e. let valid : IsValid (length (bytes_of words)) now = read_is_valid (bytes_of words) s now ok.area e in
    let most : ℕ = block_size_of (length (bytes_of words)) in
    let grammar = reads_grammar (length (bytes_of words)) most s (take most (drop (place_of most s) (bytes_of words))) now e in
    record {
      here = ap (index_reading (bytes_of words)) grammar.same_side ∙ e;
      sized = valid.whole ∙ ok.is;
      fits = omega (arith, valid.fits, valid.whole, ok.is, valid.listed, length_bytes words);
      seq = record { low = valid.seq_low; high = valid.seq_high };
      valid = subst (λ (n : ℕ). IsValid n now) (length_bytes words) valid;
    } in
    elim (one_of_two (index_reading (bytes_of words) side.Zero) (index_reading (bytes_of words) side.One) now is) [
      | inl lower ↦ read side.Zero lower
      | inr upper ↦ read side.One upper
    ]

slots_as : (left old : List ℕ) (size : ℕ) (now : IndexBlock) → length left ≡ length old → size % 256 ≡ 0 → now.size ≡ size
    → ((n i : ℕ) → n < length now.free → get_or now.free n true ≡ false → 2 * size / 8 + 32 * n ≤ i → i < 2 * size / 8 + 32 * n + 32 → get_or left i 0 ≡ get_or old i 0)
    → slots_by (bytes_of left) now ≡ slots_by (bytes_of old) now
slots_as left old size now len whole sized same =
    same_slots (bytes_of left) (bytes_of old) now.size 0 now.free
    (λ n lt used. subst (λ (at : ℕ). take 256 (drop at (bytes_of left)) ≡ take 256 (drop at (bytes_of old))) (omega arith)
    (same_bytes left old (2 * size / 8 + 32 * n) 32 len (λ i low high. same n i lt used low high)))

pub but_reads : (left old : List ℕ) (size : ℕ) (now : IndexBlock) (slot : Option ℕ) → IsSized old size → block_in (bytes_of old) ≡ Ok now → IsFreeSlot now.free slot
    → IsBut old (words_of_slot size slot) left → Shows left now (slots_by (bytes_of old) now)
but_reads left old size now slot ok is free but =
    let cur : IsCurrent old size now = is_current old size now ok is in
    let reads : (s : Side) → index_reading (bytes_of left) s ≡ index_reading (bytes_of old) s =
    λ s. same_reading left old size s but.same_length ok (λ i low high. but.same i (below_slots size slot i (in_blocks size s i ok.whole high))) in
    let block : block_in (bytes_of left) ≡ Ok now = block_as (bytes_of left) (bytes_of old) (reads side.Zero) (reads side.One) ∙ is in
    record {
      current = block;
      listed = ap (slots_with (bytes_of left)) block
          ∙ ap Ok (slots_as left old size now but.same_length ok.whole cur.sized (λ n i lt used low high. but.same i (other_slot size now.free slot n i free lt used low high)));
    }

pub closed_reads : (left old : List ℕ) (size : ℕ) (now : IndexBlock) (slot : Option ℕ) (closed : ℕ) → IsSized old size → block_in (bytes_of old) ≡ Ok now → IsFreeSlot now.free slot → closed < 2 ^ 32
    → IsClosed old (words_of_slot size slot) (guard_of size (opposite now.side)) closed (guarded_by size (opposite now.side)) left → Shows left now (slots_by (bytes_of old) now)
closed_reads left old size now slot closed ok is free low shut =
    let cur : IsCurrent old size now = is_current old size now ok is in
    let other : Side = opposite now.side in
    let same : (i : ℕ) → NotIn (words_of_slot size slot) i → (i < place_of size (opposite now.side) / 8) ⊎ (place_of size (opposite now.side) / 8 + size / 8 ≤ i) → get_or left i 0 ≡ get_or old i 0 =
    λ i out past. let away = outside_block size (opposite now.side) i ok.enough past in shut.same i out away.0 away.1 in
    let here : index_reading (bytes_of left) now.side ≡ Ok now =
    same_reading left old size now.side shut.same_length ok
    (λ i from to. same i (below_slots size slot i (in_blocks size now.side i ok.whole to)) (other_block size now.side i ok.whole from to)) ∙ cur.here in
    let there : (fault : IndexFault) × (index_reading (bytes_of left) (opposite now.side) ≡ Err fault) =
    closed_reading left size (opposite now.side) (sized_as left old size shut.same_length ok) (omega (arith, shut.shut)) in
    let block : block_in (bytes_of left) ≡ Ok now = block_by (bytes_of left) now now.side there.0 here there.1 in
    record {
      current = block;
      listed = ap (slots_with (bytes_of left)) block
          ∙ ap Ok (slots_as left old size now shut.same_length ok.whole cur.sized
          (λ n i lt used from to. same i (other_slot size now.free slot n i free lt used from to) (past_blocks size (opposite now.side) i ok.whole (omega arith))));
    }

-- the same in both cases
pub old_reads : (left old : List ℕ) (size : ℕ) (now : IndexBlock) (slot : Option ℕ) (closed : ℕ) → IsSized old size → block_in (bytes_of old) ≡ Ok now → IsFreeSlot now.free slot → closed < 2 ^ 32
    → IsOld old (words_of_slot size slot) (guard_of size (opposite now.side)) closed (guarded_by size (opposite now.side)) left → Shows left now (slots_by (bytes_of old) now)
old_reads left old size now slot closed ok is free low (inl but) = but_reads left old size now slot ok is free but
old_reads left old size now slot closed ok is free low (inr shut) = closed_reads left old size now slot closed ok is free low shut
