-- A crash never splits the writing of the first two blocks.
use Rattle.std.proofs.Common.{◌≡◌, ◌≢◌, ◌⊎◌, ℕ, zero, suc, ◌+◌, ◌-◌, ◌*◌, ◌/◌, ◌<◌, ◌≤◌, List, [], ◌∷◌, ◌++◌, length, take, drop, map, get_or, replicate, Result, Ok, Err, Option, Some, None, true, not, eqb, refl, sym, ap, ◌∙◌, subst, arith, inl, inr}
use Rattle.std.specs.Prelude.{◌||◌}
use Rattle.std.specs.List.{enumerate_from}
use Rattle.std.proofs.Math.Seq.{take-append-add}
use Rattle.std.proofs.lemmas.Bool.{cases_Bool, eq-eqb}
use Rattle.std.proofs.lemmas.List.{take-append-le, length-replicate}
use Rattle.std.proofs.lemmas.List.Elements.{All-nil}
use Rattle.nvd_words.specs.Checks.{checked}
use Rattle.nvd_words.specs.Ring.{is_newer}
use Rattle.cut_words.specs.Words.{Step, Words, after, settled, IsLeft, IsLeftAfter}
use Rattle.cut_words.specs.WordBytes.{bytes_of, words_in}
use Rattle.cut_words.specs.Guarded.{IsGuarded, IsOld, IsWhole}
use Rattle.cut_words.proofs.Stays.{after-append}
use Rattle.cut_words.proofs.Bytes.{length_bytes}
use Rattle.cut_words.proofs.Put.{put_outside, put_bytes, length_put, length_words}
use Rattle.cut_words.proofs.Guarded.{whole, all_settled}
use Rattle.label_index.specs.declared.index.IndexBlock.{IndexBlock}
use Rattle.label_index.specs.declared.index.IndexFault.{IndexFault}
use Rattle.label_index.specs.declared.index.IndexFault.TheVariants.{Signature, Sequence, Version, Offsets, Slots, Checksum, OutOfMemory}
use Rattle.label_index.specs.declared.index.Side.{Side}
use Rattle.label_index.specs.declared.index.Side.TheVariants as side
use Rattle.label_index.specs.Area.{index_size_of, block_size_of, IsAreaSize}
use Rattle.label_index.specs.Index.{block_reading, index_reading, current_of, place_of, has_signature, sequence_of}
use Rattle.label_index.specs.Spelling.{spelling_of as block_spelling}
use Rattle.label_area.specs.declared.fault.AreaFault.{AreaFault}
use Rattle.label_area.specs.declared.fault.AreaFault.TheVariants.{NoIndex, Unsupported}
use Rattle.label_area.specs.Area.{SlotState, slot_at, current_block, block_in, slots_with, refused_version}
use Rattle.label_area.specs.Change.{guard_of, guarded_by, closed_word, block_steps, count_of_steps}
use Rattle.label_area.specs.Whole.{IsChange, IsCut, Shows, slots_before}
use Rattle.label_area.specs.Init.{empty_block, half_words, full_words, IsInit, IsEmpty, IsNoIndex, IsInitCut, InitIsWhole}
use Rattle.label_area.proofs.Closed.{closed_sequence}
use Rattle.label_area.proofs.Before.{IsSized, is_sized, sized_as, reading_is, same_reading, outside_block, block_by}
use Rattle.label_area.proofs.Written.{block_out, guard_apart, guarded_below, length_change}
use Rattle.label_area.proofs.Spellings.{IsSpelled, valid_spelled}
use Rattle.label_area.proofs.After.{replace_cut}
use Rattle.label_index.specs.Valid.{IsValid}
use Rattle.label_index.proofs.Greatest.{slots_some, slots_fit}

abbrev Reading : Type 0
Reading = Result IndexBlock IndexFault

-- a side that is refused, but not for its version
pub record IsRefused (reading : Reading) : Type 0 where
  pub fault : IndexFault
  pub is : reading ≡ Err fault
  pub other : refused_version reading ≡ None

pub data VersionOr (o : Option AreaFault) : Type 0 where
  none : o ≡ None → VersionOr o
  version : (major minor : ℕ) → o ≡ Some (Unsupported major minor) → VersionOr o

pub version_or : (f : IndexFault) → VersionOr (refused_version (Err f))
version_or Signature = none refl
version_or Sequence = none refl
version_or (Version major minor) = version major minor refl
version_or Offsets = none refl
version_or Slots = none refl
version_or Checksum = none refl
version_or OutOfMemory = none refl

no_index_parts : (a b : Reading) → current_block (current_of a b) a b ≡ Err NoIndex → IsRefused a × IsRefused b
no_index_parts (Err e) (Err f) is =
    elim (version_or e) [
      | none ea ↦ elim (version_or f) [
        | none fa ↦ (record { fault = e; is = refl; other = ea }, record { fault = f; is = refl; other = fa })
        | version major minor fa ↦ absurd (let got = rw (ea, fa) at is in cc)
      ]
      | version major minor ea ↦ absurd (let got = rw ea at is in cc)
    ]
no_index_parts (Ok a) (Err f) is = absurd (cc)
no_index_parts (Err e) (Ok b) is = absurd (cc)
no_index_parts (Ok a) (Ok b) is =
    elim (cases_Bool (eqb a.seq b.seq || is_newer a.seq b.seq)) [
      | inl t ↦ absurd (let got = rw t at is in cc)
      | inr f ↦ absurd (let got = rw f at is in cc)
    ]

no_index_from : (a b : Reading) → IsRefused a → IsRefused b → current_block (current_of a b) a b ≡ Err NoIndex
no_index_from (Err e) (Err f) ra rb = rw (ra.other, rb.other) refl
no_index_from (Ok a) b ra rb = absurd (let e = ra.is in cc)
no_index_from (Err e) (Ok b) ra rb = absurd (let e' = rb.is in cc)

-- a closed block is refused, but not for its version
closed_refused : (area size : ℕ) (s : Side) (block : List ℕ) → sequence_of block ≡ 0 → IsRefused (block_reading area size s block)
unfolding checked
closed_refused area size s block closed =
    elim (cases_Bool (not (has_signature block))) [
      | inl bad ↦ record { fault = Signature; is = rw bad refl; other = rw bad refl }
      | inr good ↦ record { fault = Sequence; is = rw (good, eq-eqb (sequence_of block) 0 closed) refl; other = rw (good, eq-eqb (sequence_of block) 0 closed) refl }
    ]

same_refused : (a b : Reading) → a ≡ b → IsRefused b → IsRefused a
same_refused a b e r = subst IsRefused (sym e) r

pub all_free : (area : List ℕ) (size k slots : ℕ) → map (slot_at area size) (enumerate_from k (replicate slots true)) ≡ replicate slots None
all_free area size k zero = refl
all_free area size k (suc slots) = ap (λ (rest : List SlotState). None ∷ rest) (all_free area size (k + 1) slots)

module _ (words : List ℕ) (size slots : ℕ) (ok : IsInit words size slots) where
  abbrev one : IndexBlock
  one = empty_block size slots side.One 2

  abbrev half : List ℕ
  half = half_words words size slots

  pub sized : IsSized words size
  sized = subst (IsSized words) (sym ok.size_is) (is_sized words ok.area)

  pub half_valid : IsValid (8 * length words) one
  half_valid =
      let bytes : ℕ = length (bytes_of words) in
      record {
        seq_low = omega arith;
        seq_high = omega arith;
        sized = subst IsAreaSize (length_bytes words) ok.area;
        whole = ok.size_is ∙ ap block_size_of (length_bytes words);
        some = omega (arith, ok.slots_is, slots_some (length (bytes_of words)) ok.area);
        bits = subst (λ (k : ℕ). 72 + (slots + 7) / 8 ≤ k) (sym (ok.size_is ∙ ap index_size_of (sym ok.slots_is))) (omega arith);
        fits = omega (arith, ok.size_is, ok.slots_is, slots_fit (length (bytes_of words)) ok.area, length_bytes words);
        listed = length-replicate slots true;
      }

  half_spelled : IsSpelled (8 * length words) one
  half_spelled = valid_spelled (8 * length words) one half_valid

  block_words : length (words_in (block_spelling one)) ≡ size / 8
  block_words = omega (arith, length_words (block_spelling one) (omega (arith, half_spelled.len, sized.whole)) half_spelled.bytes, half_spelled.len, sized.whole)

  inside : size / 8 + size / 8 ≤ length words
  inside = omega (arith, sized.inside, sized.whole)

  pub half_length : length half ≡ length words
  half_length = length_put words (size / 8) (words_in (block_spelling one)) (omega (arith, block_words, inside))

  past_block : (i : ℕ) → (i < size / 8) ⊎ (size / 8 + size / 8 ≤ i) → get_or half i 0 ≡ get_or words i 0
  past_block i away =
      put_outside words (size / 8) (words_in (block_spelling one)) i (omega (arith, block_words, inside))
      (elim away [ inl below ↦ inl below | inr above ↦ inr (omega (arith, block_words)) ])

  lies : IsGuarded words half [] (guard_of size side.One) (guarded_by size side.One)
  lies = record {
    same_length = half_length;
    guard_in = omega (arith, sized.enough, inside);
    before_in = All-nil (λ p. p < length words);
    rest_in = guarded_below size side.One (length words) sized.enough inside;
    before_apart = All-nil (λ p. p ≢ guard_of size side.One);
    rest_apart = guard_apart size side.One sized.enough;
    outside = λ i out_slot out_block apart. past_block i (block_out size side.One i sized.enough out_block apart);
  }

  parts : IsRefused (index_reading (bytes_of words) side.Zero) × IsRefused (index_reading (bytes_of words) side.One)
  parts = no_index_parts (index_reading (bytes_of words) side.Zero) (index_reading (bytes_of words) side.One) ok.refused

  -- the lower side is unchanged
  lower_as : (left : List ℕ) → length left ≡ length words → ((i : ℕ) → i < size / 8 → get_or left i 0 ≡ get_or words i 0) → index_reading (bytes_of left) side.Zero ≡ index_reading (bytes_of words) side.Zero
  lower_as left len same = same_reading left words size side.Zero len sized (λ i from to. same i (omega arith))

  no_index : (left : List ℕ) → IsRefused (index_reading (bytes_of left) side.Zero) → IsRefused (index_reading (bytes_of left) side.One) → IsNoIndex left
  no_index left lower upper = ap (slots_with (bytes_of left)) (no_index_from (index_reading (bytes_of left) side.Zero) (index_reading (bytes_of left) side.One) lower upper)

  old_no_index : (left : List ℕ) → IsOld words [] (guard_of size side.One) (closed_word (get_or half (guard_of size side.One) 0)) (guarded_by size side.One) left → IsNoIndex left
  old_no_index left (inl but) =
      no_index left
      (same_refused (index_reading (bytes_of left) side.Zero) (index_reading (bytes_of words) side.Zero) (lower_as left but.same_length (λ i lt. but.same i (All-nil (λ p. p ≢ i)))) parts.0)
      (same_refused (index_reading (bytes_of left) side.One) (index_reading (bytes_of words) side.One)
      (same_reading left words size side.One but.same_length sized (λ i from to. but.same i (All-nil (λ p. p ≢ i)))) parts.1)
  old_no_index left (inr shut) =
      no_index left
      (same_refused (index_reading (bytes_of left) side.Zero) (index_reading (bytes_of words) side.Zero)
      (lower_as left shut.same_length (λ i lt. let away = outside_block size side.One i sized.enough (inl lt) in shut.same i (All-nil (λ p. p ≢ i)) away.0 away.1)) parts.0)
      (same_refused (index_reading (bytes_of left) side.One)
      (block_reading (8 * length left) size side.One (take (8 * (size / 8)) (drop (8 * (place_of size side.One / 8)) (bytes_of left))))
      (reading_is left size side.One (sized_as left words size shut.same_length sized))
      (closed_refused (8 * length left) size side.One (take (8 * (size / 8)) (drop (8 * (place_of size side.One / 8)) (bytes_of left)))
      (closed_sequence left (place_of size side.One / 8) (size / 8) (omega (arith, sized.enough)) (omega (arith, shut.shut)))))

  half_reads : index_reading (bytes_of half) side.One ≡ Ok one
  half_reads =
      reading_is half size side.One (sized_as half words size half_length sized)
      ∙ ap (λ (n : ℕ). block_reading (8 * n) size side.One (take (8 * (size / 8)) (drop (8 * (size / 8)) (bytes_of half)))) half_length
      ∙ ap (block_reading (8 * length words) size side.One)
      (put_bytes words (size / 8) (block_spelling one) (size / 8) inside (omega (arith, half_spelled.len, sized.whole)) half_spelled.bytes)
      ∙ half_spelled.reads

  pub half_block : block_in (bytes_of half) ≡ Ok one
  half_block =
      let lower = lower_as half half_length (λ i lt. past_block i (inl lt)) in
      block_by (bytes_of half) one side.One parts.0.fault half_reads (lower ∙ parts.0.is)

  half_empty : IsEmpty half size slots side.One 2
  half_empty = record { current = half_block; listed = ap (slots_with (bytes_of half)) half_block ∙ ap Ok (all_free (bytes_of half) size 0 slots) }

  -- the second block is written as a change without slots
  pub change : IsChange half one None None
  change = record {
    area = subst IsAreaSize (length_bytes words ∙ ap (λ (n : ℕ). 8 * n) (sym half_length) ∙ sym (length_bytes half)) ok.area;
    current = half_block;
    free = λ k e. absurd (cc);
    label = λ l e. absurd (cc);
  }

  pub before_empty : slots_before half one ≡ replicate slots None
  before_empty = all_free (bytes_of half) size 0 slots

  abbrev first : List Step
  first = block_steps half size side.One

  abbrev second : List Step
  second = block_steps (full_words words size slots) size side.Zero

  pub first_count : length first ≡ count_of_steps size None
  first_count = length_change half size side.One None sized.enough

  first_cut : (n : ℕ) (left : List ℕ) → n ≤ length first → IsLeftAfter words (first ++ second) n left → IsWhole words half [] (guard_of size side.One) (closed_word (get_or half (guard_of size side.One) 0)) (guarded_by size side.One) n left
  first_cut n left le cut =
      whole words half [] (guard_of size side.One) (closed_word (get_or half (guard_of size side.One) 0)) (guarded_by size side.One) lies n left
      (subst (λ steps. IsLeft (after (settled words) steps) left) (take-append-le n first second le) cut)

  second_cut : (m : ℕ) (left : List ℕ) → IsLeftAfter words (first ++ second) (length first + m) left → IsCut half one None None m left
  second_cut m left cut =
      let at : after (settled words) (take (length first + m) (first ++ second)) ≡ after (settled half) (take m second) =
      ap (after (settled words)) (take-append-add first second m) ∙ after-append first (take m second) (settled words)
      ∙ ap (λ (ws : Words). after ws (take m second)) (all_settled words half [] (guard_of size side.One) (closed_word (get_or half (guard_of size side.One) 0)) (guarded_by size side.One) lies) in
      replace_cut half one None None change m left (subst (λ (ws : Words). IsLeft ws left) at cut)

  as_empty : (left : List ℕ) (s : Side) (seq : ℕ) → Shows left (empty_block size slots s seq) (slots_before half one) → IsEmpty left size slots s seq
  as_empty left s seq shows = subst (Shows left (empty_block size slots s seq)) before_empty shows

  pub half_settled : after (settled words) first ≡ settled half
  half_settled = all_settled words half [] (guard_of size side.One) (closed_word (get_or half (guard_of size side.One) 0)) (guarded_by size side.One) lies

  pub init_cut : (n : ℕ) (left : List ℕ) → IsLeftAfter words (first ++ second) n left → IsInitCut size slots n left
  init_cut n left cut =
      let late : count_of_steps size None ≤ n → IsCut half one None None (n - count_of_steps size None) left =
      λ le. second_cut (n - count_of_steps size None) left (subst (λ (k : ℕ). IsLeftAfter words (first ++ second) k left) (omega (arith, first_count)) cut) in
      record {
        before = λ lt. old_no_index left ((first_cut n left (omega (arith, first_count)) cut).early (omega (arith, first_count)));
        either = λ e. elim ((first_cut n left (omega (arith, first_count)) cut).last (e ∙ sym first_count)) [
          | inl old ↦ inl (old_no_index left old)
          | inr new ↦ inr (subst (λ (ws : List ℕ). IsEmpty ws size slots side.One 2) (sym new) half_empty)
        ];
        half = λ le lt. as_empty left side.One 2 ((late le).before (omega arith));
        either_again = λ e. elim ((late (omega arith)).either (omega arith)) [
          | inl old ↦ inl (as_empty left side.One 2 old)
          | inr new ↦ inr (as_empty left side.Zero 3 new)
        ];
        after = λ le. as_empty left side.Zero 3 ((late (omega arith)).after (omega arith));
      }

pub init_is_whole : InitIsWhole
init_is_whole words size slots n left ok cut = init_cut words size slots ok n left cut
