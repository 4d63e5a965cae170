-- A completed change shows the slots with two of them changed, and a crash never splits a change.
use Rattle.std.proofs.Common.{◌≡◌, ◌⊎◌, ℕ, zero, suc, ◌+◌, ◌*◌, ◌/◌, ◌<◌, ◌≤◌, List, length, take, drop, get_or, Result, Ok, Option, Some, None, Bool, true, false, eqb, refl, sym, ap, ◌∙◌, subst, arith, inl, inr}
use Rattle.std.specs.Prelude.{◌||◌}
use Rattle.std.specs.List.{enumerate_from}
use Rattle.std.specs.Result.{result_ok}
use Rattle.std.proofs.Math.ListN.{set}
use Rattle.std.proofs.lemmas.Bool.{cases_eq, cases_Bool}
use Rattle.std.proofs.lemmas.List.{get_or_default, get_or-map, ext_get_or, length-map, length-set, get_or-set_same, get_or-set_other}
use Rattle.std.proofs.lemmas.List.FromFn.{get_or-enumerate_from, length-enumerate_from}
use Rattle.nvd_words.specs.Ring.{successor_of, is_newer}
use Rattle.cut_words.specs.WordBytes.{bytes_of}
use Rattle.cut_words.specs.Groups.{NotIn}
use Rattle.cut_words.specs.Words.{after, settled, IsLeftAfter}
use Rattle.cut_words.specs.Guarded.{IsGuarded, IsOld}
use Rattle.cut_words.proofs.Bytes.{same_bytes}
use Rattle.cut_words.proofs.Put.{put_bytes}
use Rattle.cut_words.proofs.Guarded.{whole, all_settled}
use Rattle.label_codec.specs.declared.label.Label.{Label}
use Rattle.label_codec.specs.declared.label.LabelFault.{LabelFault}
use Rattle.label_codec.specs.Label.{label_reading, spelling_of as label_spelling}
use Rattle.label_index.specs.declared.index.IndexBlock.{IndexBlock}
use Rattle.label_index.specs.declared.index.Side.{Side}
use Rattle.label_index.specs.declared.index.Side.TheVariants as side
use Rattle.label_index.specs.Area.{block_size_of}
use Rattle.label_index.specs.Index.{block_reading, index_reading, place_of}
use Rattle.label_index.specs.Spelling.{spelling_of as block_spelling}
use Rattle.label_index.specs.Valid.{IsValid}
use Rattle.label_area.specs.Area.{SlotState, slot_at, slots_by, block_in, slots_with}
use Rattle.label_area.specs.Change.{guard_of, guarded_by, words_of_slot, closed_word, opposite, slot_of_put, taken, given, next_block, with_label, words_after, replace_steps, count_of_steps, with_put, without}
use Rattle.label_area.specs.Whole.{IsChange, IsCut, Shows, slots_before, slots_after, ReplaceIsWhole, ReplaceSettles}
use Rattle.label_area.proofs.Spellings.{IsSpelled, writable_spelled}
use Rattle.label_area.proofs.Before.{IsSeq, IsSized, is_sized, sized_as, reading_is, same_reading, IsCurrent, is_current, other_block, past_blocks, in_blocks, below_slots, other_slot, old_reads}
use Rattle.label_area.proofs.Steps.{spelled as spelled_next, block_inside as next_inside, labelled_length as length_with, final_length as length_final, past_block as past_next}
use Rattle.label_area.proofs.Written.{block_out, guard_apart, guarded_below, length_change, PutFits, labelled_outside, label_there, slot_below, slot_inside}

-- ---- the newer block is current

newer_next : (s : ℕ) → IsSeq s → is_newer s (successor_of s) ≡ true
newer_next zero ok = absurd (omega (arith, ok.low))
newer_next (suc zero) ok = refl
newer_next (suc (suc zero)) ok = refl
newer_next (suc (suc (suc zero))) ok = refl
newer_next (suc (suc (suc (suc s)))) ok = absurd (omega (arith, ok.high))

older_next : (s : ℕ) → IsSeq s → (eqb (successor_of s) s || is_newer (successor_of s) s) ≡ false
older_next zero ok = absurd (omega (arith, ok.low))
older_next (suc zero) ok = refl
older_next (suc (suc zero)) ok = refl
older_next (suc (suc (suc zero))) ok = refl
older_next (suc (suc (suc (suc s)))) ok = absurd (omega (arith, ok.high))

other_next : (s : ℕ) → IsSeq s → (eqb s (successor_of s) || is_newer s (successor_of s)) ≡ true
other_next zero ok = absurd (omega (arith, ok.low))
other_next (suc zero) ok = refl
other_next (suc (suc zero)) ok = refl
other_next (suc (suc (suc zero))) ok = refl
other_next (suc (suc (suc (suc s)))) ok = absurd (omega (arith, ok.high))

next_seq : (s : ℕ) → IsSeq s → IsSeq (successor_of s)
next_seq zero ok = absurd (omega (arith, ok.low))
next_seq (suc zero) ok = record { low = omega arith; high = omega arith }
next_seq (suc (suc zero)) ok = record { low = omega arith; high = omega arith }
next_seq (suc (suc (suc zero))) ok = record { low = omega arith; high = omega arith }
next_seq (suc (suc (suc (suc s)))) ok = absurd (omega (arith, ok.high))

pub block_new : (area : List ℕ) (now next : IndexBlock) (s : Side) → IsSeq now.seq → next.seq ≡ successor_of now.seq
    → index_reading area s ≡ Ok now → index_reading area (opposite s) ≡ Ok next → block_in area ≡ Ok next
block_new area now next side.Zero seq is here there =
    let test : (eqb now.seq next.seq || is_newer now.seq next.seq) ≡ true = ap (λ (n : ℕ). eqb now.seq n || is_newer now.seq n) is ∙ other_next now.seq seq in
    rw (here, there, test) refl
block_new area now next side.One seq is here there =
    let test : (eqb next.seq now.seq || is_newer next.seq now.seq) ≡ false = ap (λ (n : ℕ). eqb n now.seq || is_newer n now.seq) is ∙ older_next now.seq seq in
    rw (here, there, test) refl

-- ---- the slots, one by one

pub length_slots : (area : List ℕ) (block : IndexBlock) → length (slots_by area block) ≡ length block.free
length_slots area block = length-map (enumerate_from 0 block.free) (slot_at area block.size) ∙ length-enumerate_from 0 block.free

pub slot_is : (area : List ℕ) (block : IndexBlock) (n : ℕ) → n < length block.free → get_or (slots_by area block) n None ≡ slot_at area block.size (n, get_or block.free n false)
slot_is area block n lt =
    get_or-map (slot_at area block.size) (enumerate_from 0 block.free) n (0, false) None (omega (arith, length-enumerate_from 0 block.free))
    ∙ ap (slot_at area block.size) (get_or-enumerate_from 0 block.free n (0, false) lt)
    ∙ ap (λ (k : ℕ). slot_at area block.size (k, get_or block.free n false)) (omega arith)

length_taken : (slot : Option ℕ) (free : List Bool) → length (taken slot free) ≡ length free
length_taken None free = refl
length_taken (Some k) free = length-set free k false

pub length_given : (out : Option ℕ) (free : List Bool) → length (given out free) ≡ length free
length_given None free = refl
length_given (Some k) free = length-set free k true

length_put_slots : (put : Option Label) (slots : List SlotState) → length (with_put put slots) ≡ length slots
length_put_slots None slots = refl
length_put_slots (Some l) slots = length-set slots l.slot (Some (Some l))

length_without : (out : Option ℕ) (slots : List SlotState) → length (without out slots) ≡ length slots
length_without None slots = refl
length_without (Some k) slots = length-set slots k None

-- slots change as their bits do
slot_free : (area : List ℕ) (size n : ℕ) (b : Bool) → b ≡ true → slot_at area size (n, b) ≡ None
slot_free area size n b e = rw e refl

slot_used : (area : List ℕ) (size n : ℕ) (b : Bool) → b ≡ false → slot_at area size (n, b) ≡ Some (result_ok (label_reading (take 256 (drop (2 * size + 256 * n) area)) n))
slot_used area size n b e = rw e refl

after_put : (final area : List ℕ) (size : ℕ) (free : List Bool) (slots : List SlotState) (put : Option Label) (n : ℕ) → n < length free → length slots ≡ length free
    → get_or slots n None ≡ slot_at area size (n, get_or free n false)
    → ((i : ℕ) → n ≡ i → (slot_of_put put ≡ Some i → ⊥) → get_or free n true ≡ false → take 256 (drop (2 * size + 256 * i) final) ≡ take 256 (drop (2 * size + 256 * i) area))
    → ((l : Label) → put ≡ Some l → label_reading (take 256 (drop (2 * size + 256 * l.slot) final)) l.slot ≡ Ok l)
    → slot_at final size (n, get_or (taken (slot_of_put put) free) n false) ≡ get_or (with_put put slots) n None
after_put final area size free slots None n lt len was same new =
    elim (cases_Bool (get_or free n false)) [
      | inl f ↦ slot_free final size n (get_or free n false) f ∙ sym (was ∙ slot_free area size n (get_or free n false) f)
      | inr u ↦ slot_used final size n (get_or free n false) u
          ∙ ap (λ (bytes : List ℕ). Some (result_ok (label_reading bytes n))) (same n refl (λ e. absurd (cc)) (get_or_default free n true false lt ∙ u))
          ∙ sym (was ∙ slot_used area size n (get_or free n false) u)
    ]
after_put final area size free slots (Some l) n lt len was same new =
    elim (cases_eq n l.slot) [
      | inl e ↦ ap (λ (k : ℕ). slot_at final size (k, get_or (set free l.slot false) k false)) e
          ∙ slot_used final size l.slot (get_or (set free l.slot false) l.slot false) (get_or-set_same free l.slot false false (omega arith))
          ∙ ap (λ (r : Result Label LabelFault). Some (result_ok r)) (new l refl)
          ∙ sym (ap (λ (k : ℕ). get_or (set slots l.slot (Some (Some l))) k None) e ∙ get_or-set_same slots l.slot (Some (Some l)) None (omega arith))
      | inr other ↦
          ap (λ (b : Bool). slot_at final size (n, b)) (get_or-set_other free l.slot n false false other)
          ∙ elim (cases_Bool (get_or free n false)) [
            | inl f ↦ slot_free final size n (get_or free n false) f ∙ sym (was ∙ slot_free area size n (get_or free n false) f)
            | inr u ↦ slot_used final size n (get_or free n false) u
                ∙ ap (λ (bytes : List ℕ). Some (result_ok (label_reading bytes n))) (same n refl (λ e. let k : l.slot ≡ n = cc in absurd (other (sym k))) (get_or_default free n true false lt ∙ u))
                ∙ sym (was ∙ slot_used area size n (get_or free n false) u)
          ]
          ∙ sym (get_or-set_other slots l.slot n (Some (Some l)) None other)
    ]

after_given : (final : List ℕ) (size : ℕ) (free : List Bool) (slots : List SlotState) (out : Option ℕ) (n : ℕ) → n < length free → length slots ≡ length free
    → slot_at final size (n, get_or free n false) ≡ get_or slots n None
    → slot_at final size (n, get_or (given out free) n false) ≡ get_or (without out slots) n None
after_given final size free slots None n lt len is = is
after_given final size free slots (Some k) n lt len is =
    elim (cases_eq n k) [
      | inl e ↦ slot_free final size n (get_or (set free k true) n false) (ap (λ (j : ℕ). get_or (set free k true) j false) e ∙ get_or-set_same free k true false (omega arith))
          ∙ sym (ap (λ (j : ℕ). get_or (set slots k None) j None) e ∙ get_or-set_same slots k None None (omega arith))
      | inr other ↦ ap (λ (b : Bool). slot_at final size (n, b)) (get_or-set_other free k n true false other) ∙ is ∙ sym (get_or-set_other slots k n None None other)
    ]

-- ---- one change

-- the block of the other side fits the area
pub valid_next : (words : List ℕ) (now : IndexBlock) (out : Option ℕ) (put : Option Label) (size : ℕ) → IsCurrent words size now → IsValid (8 * length words) (next_block now out put)
valid_next words now out put size cur =
    let v : IsValid (8 * length words) now = cur.valid in
    let seq = next_seq now.seq cur.seq in
    record {
      sized = v.sized;
      seq_low = seq.low;
      seq_high = seq.high;
      whole = v.whole;
      some = v.some;
      bits = v.bits;
      fits = v.fits;
      listed = length_given out (taken (slot_of_put put) now.free) ∙ length_taken (slot_of_put put) now.free ∙ v.listed;
    }

module _ (words : List ℕ) (now : IndexBlock) (out : Option ℕ) (put : Option Label) (ok : IsChange words now out put) where
  abbrev other : Side
  other = opposite now.side

  abbrev next : IndexBlock
  next = next_block now out put

  abbrev labelled : List ℕ
  labelled = with_label now.size put words

  abbrev final : List ℕ
  final = words_after words now out put

  abbrev spots : List ℕ
  spots = words_of_slot now.size (slot_of_put put)

  first_sized : IsSized words (block_size_of (length (bytes_of words)))
  first_sized = is_sized words ok.area

  pub sized : IsSized words now.size
  sized = subst (IsSized words) (sym (is_current words (block_size_of (length (bytes_of words))) now first_sized ok.current).sized) first_sized

  cur : IsCurrent words now.size now
  cur = is_current words now.size now sized ok.current

  pub fits : PutFits now.size put (length words)
  fits l is = (omega (arith, cur.fits, sized.whole, slot_inside now.free put l ok.free is), writable_spelled l (ok.label l is))

  pub next_valid : IsValid (8 * length words) next
  next_valid = valid_next words now out put now.size cur

  spelled : IsSpelled (8 * length words) next
  spelled = spelled_next words next put next_valid fits

  -- the places of the writes
  block_inside : place_of now.size other / 8 + now.size / 8 ≤ length words
  block_inside = next_inside words next put next_valid fits

  labelled_length : length labelled ≡ length words
  labelled_length = length_with words next put next_valid fits

  pub length_after : length final ≡ length words
  length_after = length_final words next put next_valid fits

  past_block : (i : ℕ) → (i < place_of now.size other / 8) ⊎ (place_of now.size other / 8 + now.size / 8 ≤ i) → get_or final i 0 ≡ get_or labelled i 0
  past_block i away = past_next words next put next_valid fits i away

  past_all : (i : ℕ) → NotIn spots i → (i < place_of now.size other / 8) ⊎ (place_of now.size other / 8 + now.size / 8 ≤ i) → get_or final i 0 ≡ get_or words i 0
  past_all i out_slot away = past_block i away ∙ labelled_outside now.size put words i fits out_slot

  guard_low : guard_of now.size other < 2 * now.size / 8
  guard_low = in_blocks now.size other (guard_of now.size other) sized.whole (omega (arith, sized.enough))

  lies : IsGuarded words final spots (guard_of now.size other) (guarded_by now.size other)
  lies = record {
    same_length = length_after;
    guard_in = omega (arith, guard_low, sized.inside);
    before_in = slot_below now.size put words fits;
    rest_in = guarded_below now.size other (length words) sized.enough block_inside;
    before_apart = below_slots now.size (slot_of_put put) (guard_of now.size other) guard_low;
    rest_apart = guard_apart now.size other sized.enough;
    outside = λ i out_slot out_block apart. past_all i out_slot (block_out now.size other i sized.enough out_block apart);
  }

  -- the completed area is read as the next block
  next_reads : index_reading (bytes_of final) other ≡ Ok next
  next_reads =
      reading_is final now.size other (sized_as final words now.size length_after sized)
      ∙ ap (λ (n : ℕ). block_reading (8 * n) now.size other (take (8 * (now.size / 8)) (drop (8 * (place_of now.size other / 8)) (bytes_of final)))) length_after
      ∙ ap (block_reading (8 * length words) now.size other)
      (put_bytes labelled (place_of now.size other / 8) (block_spelling next) (now.size / 8) (omega (arith, block_inside, labelled_length)) (omega (arith, spelled.len, sized.whole)) spelled.bytes)
      ∙ spelled.reads

  now_reads : index_reading (bytes_of final) now.side ≡ Ok now
  now_reads =
      same_reading final words now.size now.side length_after sized
      (λ i from to. past_all i (below_slots now.size (slot_of_put put) i (in_blocks now.size now.side i sized.whole to)) (other_block now.size now.side i sized.whole from to))
      ∙ cur.here

  pub final_block : block_in (bytes_of final) ≡ Ok next
  final_block = block_new (bytes_of final) now next now.side cur.seq refl now_reads next_reads

  same_slot : (n : ℕ) → n < length now.free → get_or now.free n true ≡ false
      → take 256 (drop (2 * now.size + 256 * n) (bytes_of final)) ≡ take 256 (drop (2 * now.size + 256 * n) (bytes_of words))
  same_slot n lt used =
      subst (λ (at : ℕ). take 256 (drop at (bytes_of final)) ≡ take 256 (drop at (bytes_of words))) (omega (arith, sized.whole))
      (same_bytes final words (2 * now.size / 8 + 32 * n) 32 length_after
      (λ i from to. past_all i (other_slot now.size now.free (slot_of_put put) n i ok.free lt used from to) (past_blocks now.size other i sized.whole (omega arith))))

  new_slot : (l : Label) → put ≡ Some l → label_reading (take 256 (drop (2 * now.size + 256 * l.slot) (bytes_of final))) l.slot ≡ Ok l
  new_slot l is =
      let lies_there : take (8 * 32) (drop (8 * (2 * now.size / 8 + 32 * l.slot)) (bytes_of (with_label now.size put words))) ≡ label_spelling l =
      subst (λ (p : Option Label). take (8 * 32) (drop (8 * (2 * now.size / 8 + 32 * l.slot)) (bytes_of (with_label now.size p words))) ≡ label_spelling l) (sym is)
      (label_there now.size l words (λ m e. fits m (is ∙ e))) in
      let same : take (8 * 32) (drop (8 * (2 * now.size / 8 + 32 * l.slot)) (bytes_of final)) ≡ take (8 * 32) (drop (8 * (2 * now.size / 8 + 32 * l.slot)) (bytes_of (with_label now.size put words))) =
      same_bytes final labelled (2 * now.size / 8 + 32 * l.slot) 32 (length_after ∙ sym labelled_length)
      (λ i from to. past_block i (past_blocks now.size other i sized.whole (omega arith))) in
      ap (λ (at : ℕ). label_reading (take 256 (drop at (bytes_of final))) l.slot) (omega (arith, sized.whole))
      ∙ ap (λ (bytes : List ℕ). label_reading bytes l.slot) (same ∙ lies_there) ∙ (writable_spelled l (ok.label l is)).reads

  pub final_slots : slots_by (bytes_of final) next ≡ slots_after words now out put
  final_slots =
      ext_get_or None (slots_by (bytes_of final) next) (slots_after words now out put)
      (length_slots (bytes_of final) next ∙ length_given out (taken (slot_of_put put) now.free) ∙ length_taken (slot_of_put put) now.free
      ∙ sym (length_without out (with_put put (slots_before words now)) ∙ length_put_slots put (slots_before words now) ∙ length_slots (bytes_of words) now))
      (λ n lt.
      let low : n < length now.free = omega (arith, length_slots (bytes_of final) next, length_given out (taken (slot_of_put put) now.free), length_taken (slot_of_put put) now.free) in
      slot_is (bytes_of final) next n (omega (arith, length_slots (bytes_of final) next))
      ∙ after_given (bytes_of final) now.size (taken (slot_of_put put) now.free) (with_put put (slots_before words now)) out n
      (omega (arith, length_taken (slot_of_put put) now.free))
      (length_put_slots put (slots_before words now) ∙ length_slots (bytes_of words) now ∙ sym (length_taken (slot_of_put put) now.free))
      (after_put (bytes_of final) (bytes_of words) now.size now.free (slots_before words now) put n low (length_slots (bytes_of words) now) (slot_is (bytes_of words) now n low)
      (λ i e apart used. subst (λ (k : ℕ). take 256 (drop (2 * now.size + 256 * k) (bytes_of final)) ≡ take 256 (drop (2 * now.size + 256 * k) (bytes_of words))) e (same_slot n low used))
      new_slot))

  final_shows : Shows final next (slots_after words now out put)
  final_shows = record { current = final_block; listed = ap (slots_with (bytes_of final)) final_block ∙ ap Ok final_slots }

  old_shows : (left : List ℕ) → IsOld words spots (guard_of now.size other) (closed_word (get_or final (guard_of now.size other) 0)) (guarded_by now.size other) left → Shows left now (slots_before words now)
  old_shows left old = old_reads left words now.size now (slot_of_put put) (closed_word (get_or final (guard_of now.size other) 0)) sized ok.current ok.free (omega arith) old

  pub replace_cut : (n : ℕ) (left : List ℕ) → IsLeftAfter words (replace_steps words now out put) n left → IsCut words now out put n left
  replace_cut n left cut =
      let w = whole words final spots (guard_of now.size other) (closed_word (get_or final (guard_of now.size other) 0)) (guarded_by now.size other) lies n left cut in
      let count : length (replace_steps words now out put) ≡ count_of_steps now.size put = length_change final now.size other put sized.enough in
      record {
        before = λ lt. old_shows left (w.early (omega (arith, count)));
        either = λ e. elim (w.last (e ∙ sym count)) [
          | inl old ↦ inl (old_shows left old)
          | inr new ↦ inr (subst (λ (ws : List ℕ). Shows ws next (slots_after words now out put)) (sym new) final_shows)
        ];
        after = λ le. subst (λ (ws : List ℕ). Shows ws next (slots_after words now out put)) (sym (w.done (omega (arith, count)))) final_shows;
      }

  pub replace_settled : after (settled words) (replace_steps words now out put) ≡ settled final
  replace_settled = all_settled words final spots (guard_of now.size other) (closed_word (get_or final (guard_of now.size other) 0)) (guarded_by now.size other) lies

pub replace_is_whole : ReplaceIsWhole
replace_is_whole words now out put n left ok cut = replace_cut words now out put ok n left cut

pub replace_settles : ReplaceSettles
replace_settles words now out put ok = replace_settled words now out put ok
