-- Both blocks of an area that is initialised.
use Rattle.std.proofs.Common.{◌≡◌, ◌≢◌, ℕ, zero, suc, ◌*◌, List, ◌∷◌, length, replicate, take, Bool, true, false, Option, Some, None, Result, Ok, Err, refl, sym, ap, ◌∙◌, subst, arith, take_all, eqb, inl, inr}
use Rattle.std.specs.Prelude.{◌||◌}
use Rattle.std.proofs.lemmas.Bool.{cases_Bool}
use Rattle.nvd_words.specs.Ring.{is_newer}
use Rattle.std.proofs.lemmas.List.{length-append}
use Rattle.cut_words.specs.Words.{Words, Step, after, settled, IsLeft}
use Rattle.cut_words.specs.Fuses.{Makes, allowed, lasts, burnt}
use Rattle.cut_words.specs.WordBytes.{bytes_of}
use Rattle.cut_words.proofs.Bytes.{length_bytes}
use Rattle.cut_words.proofs.Stays.{after-append}
use Rattle.cut_words.proofs.Making.{makes_all, makes_both}
use Rattle.label_codec.specs.declared.label.Label.{Label}
use Rattle.label_index.specs.declared.index.IndexBlock.{IndexBlock}
use Rattle.label_index.specs.declared.index.IndexFault.{IndexFault}
use Rattle.label_index.specs.declared.index.Side.TheVariants as side
use Rattle.label_index.specs.Index.{index_reading, current_of}
use Rattle.label_index.specs.Area.{IsAreaSize, block_size_of, slots_of}
use Rattle.label_area.specs.declared.fault.AreaFault.TheVariants.{NoIndex, PowerCut, Unsupported, OutOfMemory, AlreadyInitialised}
use Rattle.label_area.specs.declared.fault.AreaFault.{AreaFault}
use Rattle.label_area.specs.Area.{current_block, block_in, labels_in}
use Rattle.label_area.specs.Change.{block_steps, count_of_steps}
use Rattle.label_area.specs.Writing.{CanWrite, writing_steps}
use Rattle.label_area.specs.Whole.{IsChange, steps_under}
use Rattle.label_area.specs.Init.{empty_block, half_words, full_words, init_steps, IsInit, IsInitCut}
use Rattle.label_area.specs.declared.read.Shown.{Shown}
use Rattle.label_area.specs.Opened.{IsReady, labels_by}
use Rattle.label_area.specs.Initialise.{size_for, slots_for, blank_by, initial, initialised}
use Rattle.label_area.proofs.Init.{sized, half_valid, half_length, change, first_count, half_settled, init_cut, all_free, none, version, version_or}
use Rattle.label_area.proofs.Written.{length_change}
use Rattle.label_area.proofs.After.{next_valid, length_after, final_block, replace_settles}
use Rattle.label_area.proofs.Opened.{area_size}

no_labels : (slots : ℕ) → labels_in (replicate slots None) ≡ replicate slots None
no_labels zero = refl
no_labels (suc slots) = ap (λ (rest : List (Option Label)). None ∷ rest) (no_labels slots)

module _ (words : List ℕ) (size slots : ℕ) (ok : IsInit words size slots) where
  abbrev half : List ℕ
  half = half_words words size slots

  abbrev full : List ℕ
  full = full_words words size slots

  abbrev one : IndexBlock
  one = empty_block size slots side.One 2

  abbrev two : IndexBlock
  two = empty_block size slots side.Zero 3

  again : IsChange half one None None
  again = change words size slots ok

  pub can_write_one : CanWrite (settled words) one None
  can_write_one = record { none_pending = refl; valid = half_valid words size slots ok; room = λ l e. absurd (cc); sound = λ l e. absurd (cc) }

  pub can_write_two : CanWrite (settled half) two None
  can_write_two = record { none_pending = refl; valid = next_valid half one None None again; room = λ l e. absurd (cc); sound = λ l e. absurd (cc) }

  -- after the first block
  pub first_done : (w w1 : Words) (f f1 : Option ℕ) → w ≡ settled words → Makes w w1 f f1 (writing_steps words one None) true → w1 ≡ settled half
  first_done w w1 f f1 is h =
      makes_all w w1 f f1 (writing_steps words one None) h ∙ ap (λ (v : Words). after v (writing_steps words one None)) is ∙ half_settled words size slots ok

  -- and after the second
  abbrev steps : List Step
  steps = init_steps words size slots

  count_both : length steps ≡ 2 * count_of_steps size None
  count_both =
      length-append (block_steps half size side.One) (block_steps full size side.Zero)
      ∙ omega (arith, first_count words size slots ok, length_change full size side.Zero None (sized words size slots ok).enough)

  all_settled : after (settled words) steps ≡ settled full
  all_settled =
      after-append (block_steps half size side.One) (block_steps full size side.Zero) (settled words)
      ∙ ap (λ (v : Words). after v (block_steps full size side.Zero)) (half_settled words size slots ok) ∙ replace_settles half one None None again

  pub both_done : (w w2 : Words) (f f2 : Option ℕ) → w ≡ settled words → Makes w w2 f f2 steps true → w2 ≡ settled full
  both_done w w2 f f2 is h = makes_all w w2 f f2 steps h ∙ ap (λ (v : Words). after v steps) is ∙ all_settled

  pub both_last : (w w2 : Words) (f f2 : Option ℕ) (made : Bool) → Makes w w2 f f2 steps made → lasts f (2 * count_of_steps size None) ≡ made
  both_last w w2 f f2 made h = ap (lasts f) (sym count_both) ∙ sym h.all_made

  pub both_burnt : (w w2 : Words) (f f2 : Option ℕ) (made : Bool) → Makes w w2 f f2 steps made → f2 ≡ burnt f (2 * count_of_steps size None)
  both_burnt w w2 f f2 made h = h.fuse_left ∙ ap (burnt f) count_both

  -- after a crash
  pub both_whole : (w w2 : Words) (f f2 : Option ℕ) (made : Bool) → w ≡ settled words → Makes w w2 f f2 steps made → (left : List ℕ) → IsLeft w2 left
      → IsInitCut size slots (steps_under f (2 * count_of_steps size None)) left
  both_whole w w2 None f2 made is h left cut =
      init_cut words size slots ok (2 * count_of_steps size None) left
      (subst (λ (v : Words). IsLeft v left)
      (h.words ∙ ap (λ (v : Words). after v steps) is ∙ ap (after (settled words)) (sym (take_all (2 * count_of_steps size None) steps (omega (arith, count_both))))) cut)
  both_whole w w2 (Some n) f2 made is h left cut =
      init_cut words size slots ok n left (subst (λ (v : Words). IsLeft v left) (h.words ∙ ap (λ (v : Words). after v (take n steps)) is) cut)

  -- the area then
  pub full_block : block_in (bytes_of full) ≡ Ok two
  full_block = final_block half one None None again

  pub full_labels : labels_by full two ≡ replicate slots None
  full_labels = ap labels_in (all_free (bytes_of full) size 0 slots) ∙ no_labels slots

  pub full_length : length full ≡ length words
  full_length = length_after half one None None again ∙ half_length words size slots ok

-- the steps of both blocks; those of the second are for the words after the first
pub both_made : (words : List ℕ) (size slots : ℕ) (w w1 w2 : Words) (f f1 f2 : Option ℕ) (made : Bool) → w1 ≡ settled (half_words words size slots)
    → Makes w w1 f f1 (writing_steps words (empty_block size slots side.One 2) None) true → Makes w1 w2 f1 f2 (writing_steps w1.kept (empty_block size slots side.Zero 3) None) made
    → Makes w w2 f f2 (init_steps words size slots) made
both_made words size slots w w1 w2 f f1 f2 made is a b =
    makes_both w w1 w2 f f1 f2 (block_steps (half_words words size slots) size side.One) (block_steps (full_words words size slots) size side.Zero) made a
    (subst (λ (v : Words). Makes w1 w2 f1 f2 (writing_steps v.kept (empty_block size slots side.Zero 3) None) made) is b)

pub initial_ready : (values : List ℕ) → IsAreaSize (8 * length values) → IsInit values (size_for (length values)) (slots_for (length values)) → IsReady (initial values)
initial_ready values size ok = record {
  size = subst IsAreaSize (ap (λ (n : ℕ). 8 * n) (sym (full_length values (size_for (length values)) (slots_for (length values)) ok))) size;
  current = full_block values (size_for (length values)) (slots_for (length values)) ok;
  shown = ap (λ (ls : List (Option Label)). record {
    words = settled (full_words values (size_for (length values)) (slots_for (length values)));
    block = empty_block (size_for (length values)) (slots_for (length values)) side.Zero 3;
    labels = ls;
    stopped = false;
  }) (sym (full_labels values (size_for (length values)) (slots_for (length values)) ok));
}

pub is_init : (values : List ℕ) → IsAreaSize (8 * length values) → block_in (bytes_of values) ≡ Err NoIndex → IsInit values (size_for (length values)) (slots_for (length values))
is_init values size bare = record {
  area = area_size values size;
  size_is = ap block_size_of (sym (length_bytes values));
  slots_is = ap slots_of (sym (length_bytes values));
  refused = bare;
}

-- ---- the result

pub initial_is : (w w2 : Words) (f f2 : Option ℕ) (block : IndexBlock) (labels : List (Option Label)) → w ≡ settled w.kept → IsAreaSize (8 * length w.kept) → block_in (bytes_of w.kept) ≡ Err NoIndex
    → Makes w w2 f f2 (init_steps w.kept (size_for (length w.kept)) (slots_for (length w.kept))) true → block ≡ empty_block (size_for (length w.kept)) (slots_for (length w.kept)) side.Zero 3
    → labels ≡ replicate (slots_for (length w.kept)) None → record { words = w2; block = block; labels = labels; stopped = false } ≡ initial w.kept
initial_is w w2 f f2 block labels is size bare h bl ls =
    rw (both_done w.kept (size_for (length w.kept)) (slots_for (length w.kept)) (is_init w.kept size bare) w w2 f f2 is h, bl, ls) refl

pub done_answer : (w w2 : Words) (f f2 : Option ℕ) → IsAreaSize (8 * length w.kept) → block_in (bytes_of w.kept) ≡ Err NoIndex
    → Makes w w2 f f2 (init_steps w.kept (size_for (length w.kept)) (slots_for (length w.kept))) true → Ok (initial w.kept) ≡ initialised w.kept f
done_answer w w2 f f2 size bare h =
    rw (bare, both_last w.kept (size_for (length w.kept)) (slots_for (length w.kept)) (is_init w.kept size bare) w w2 f f2 true h) refl

pub cut_answer : (w w2 : Words) (f f2 : Option ℕ) → w ≡ settled w.kept → IsAreaSize (8 * length w.kept) → block_in (bytes_of w.kept) ≡ Err NoIndex
    → Makes w w2 f f2 (init_steps w.kept (size_for (length w.kept)) (slots_for (length w.kept))) false → Err (record { words = w2; fault = PowerCut }) ≡ initialised w.kept f
cut_answer w w2 f f2 is size bare h =
    ap (λ (v : Words). Err (record { words = v; fault = PowerCut })) (h.words ∙ ap (λ (v : Words). after v (allowed f (init_steps w.kept (size_for (length w.kept)) (slots_for (length w.kept))))) is)
    ∙ sym (rw (bare, both_last w.kept (size_for (length w.kept)) (slots_for (length w.kept)) (is_init w.kept size bare) w w2 f f2 false h) refl)

no_cut : (a b : Result IndexBlock IndexFault) → current_block (current_of a b) a b ≡ Err PowerCut → ⊥
no_cut (Err e) (Err f) is =
    elim (version_or e) [
      | none ea ↦ elim (version_or f) [
        | none fa ↦ absurd (let got = rw (ea, fa) at is in cc)
        | version major minor fa ↦ absurd (let got = rw (ea, fa) at is in cc)
      ]
      | version major minor ea ↦ absurd (let got = rw ea at is in cc)
    ]
no_cut (Ok a) (Err f) is = absurd (cc)
no_cut (Err e) (Ok b) is = absurd (cc)
no_cut (Ok a) (Ok b) is =
    elim (cases_Bool (eqb a.seq b.seq || is_newer a.seq b.seq)) [
      | inl t ↦ absurd (let got = rw t at is in cc)
      | inr f ↦ absurd (let got = rw f at is in cc)
    ]

-- a fault of reading an area is never a power cut
pub read_fault : (area : List ℕ) (fault : AreaFault) → block_in area ≡ Err fault → fault ≡ PowerCut → ⊥
read_fault area fault is cut = no_cut (index_reading area side.Zero) (index_reading area side.One) (is ∙ ap (λ (f : AreaFault). Err f) cut)

blank_cut : (count : ℕ) (area : List ℕ) (read : Result IndexBlock AreaFault) → block_in area ≡ read → Err PowerCut ≡ blank_by count read → ⊥
blank_cut count area (Ok block) was is = absurd (cc)
blank_cut count area (Err NoIndex) was is = absurd (cc)
blank_cut count area (Err (Unsupported major minor)) was is = absurd (cc)
blank_cut count area (Err OutOfMemory) was is = absurd (cc)
blank_cut count area (Err (AlreadyInitialised seq)) was is = absurd (cc)
blank_cut count area (Err PowerCut) was is = read_fault area PowerCut was refl

pub blank_fault : (count : ℕ) (area : List ℕ) (fault : AreaFault) → (◌≢◌ {A = Result Shown AreaFault} (Err fault) (Err OutOfMemory) → Err fault ≡ blank_by count (block_in area)) → fault ≡ PowerCut → ⊥
blank_fault count area fault told is =
    let same : ◌≡◌ {A = Result Shown AreaFault} (Err fault) (Err PowerCut) = ap (λ (f : AreaFault). Err f) is in
    let answer : Err fault ≡ blank_by count (block_in area) = told (λ out. absurd (cc)) in
    blank_cut count area (block_in area) refl (sym same ∙ answer)
