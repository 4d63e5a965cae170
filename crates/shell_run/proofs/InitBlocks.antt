-- Which index blocks can be read after a crash of `init`.
use Rattle.std.proofs.Common.{◌≡◌, ◌≢◌, ◌⊎◌, ℕ, ◌+◌, ◌-◌, ◌*◌, ◌/◌, ◌<◌, ◌≤◌, List, [], ◌++◌, length, take, take_all, get_or, Option, Some, None, Result, Ok, Err, refl, sym, ap, ◌∙◌, subst, arith, inl, inr, eqb}
use Rattle.std.specs.Prelude.{◌||◌}
use Rattle.std.proofs.Math.Seq.{take-append-add}
use Rattle.std.proofs.lemmas.Bool.{cases_Bool, cases_lt}
use Rattle.std.proofs.lemmas.List.{length-append, take-append-le}
use Rattle.std.proofs.lemmas.List.Elements.{All-nil}
use Rattle.nvd_words.specs.Ring.{is_newer}
use Rattle.cut_words.specs.Fuses.{allowed}
use Rattle.cut_words.specs.Words.{Step, Words, after, settled, IsLeft, IsLeftAfter}
use Rattle.cut_words.specs.WordBytes.{bytes_of, words_in}
use Rattle.cut_words.specs.Guarded.{IsGuarded, IsOld, IsWhole}
use Rattle.cut_words.proofs.Stays.{after-append}
use Rattle.cut_words.proofs.Put.{put_outside, length_put, length_words}
use Rattle.cut_words.proofs.Guarded.{whole}
use Rattle.label_index.specs.declared.index.IndexBlock.{IndexBlock}
use Rattle.label_index.specs.declared.index.IndexFault.{IndexFault}
use Rattle.label_index.specs.declared.index.Side.{Side}
use Rattle.label_index.specs.declared.index.Side.TheVariants as side
use Rattle.label_index.specs.Index.{current_of, index_reading, place_of}
use Rattle.label_index.specs.Spelling.{spelling_of as block_spelling}
use Rattle.label_index.specs.Valid.{IsValid}
use Rattle.label_area.specs.declared.fault.AreaFault.{AreaFault}
use Rattle.label_area.specs.Area.{current_block}
use Rattle.label_area.specs.Change.{block_steps, closed_word, count_of_steps, guard_of, guarded_by, with_block}
use Rattle.label_area.specs.Whole.{steps_under}
use Rattle.label_area.specs.Init.{IsInit, empty_block, full_words, half_words, init_steps}
use Rattle.label_area.proofs.After.{next_valid}
use Rattle.label_area.proofs.Before.{IsSized, closed_reading, is_current, same_reading, sized_as, outside_block}
use Rattle.label_area.proofs.Init.{change, first_count, half_block, half_length, half_settled, half_valid, init_cut, sized}
use Rattle.label_area.proofs.Spellings.{valid_spelled}
use Rattle.label_area.proofs.Written.{block_out, guard_apart, guarded_below, length_change}
use Rattle.shell_run.specs.Laws.{HasBlocks}

abbrev Reading : Type 0
Reading = Result IndexBlock IndexFault

-- an area without a current block has none that can be read
none_read : (a b : Reading) (f : AreaFault) → current_block (current_of a b) a b ≡ Err f → ((x : IndexBlock) → a ≢ Ok x) × ((x : IndexBlock) → b ≢ Ok x)
none_read (Err e) (Err g) f is = (λ x at. (let h = at in cc), λ x at. (let h = at in cc))
none_read (Ok a) (Err g) f is = absurd (let h = is in cc)
none_read (Err e) (Ok b) f is = absurd (let h = is in cc)
none_read (Ok a) (Ok b) f is =
    elim (cases_Bool (eqb a.seq b.seq || is_newer a.seq b.seq)) [
      | inl t ↦ absurd (let h = rw t at is in cc)
      | inr t ↦ absurd (let h = rw t at is in cc)
    ]

-- ---- a block that is written

-- words that agree beside a block, in which the old ones may stand
module _ (old : List ℕ) (size : ℕ) (s : Side) (block : IndexBlock) (ok : IsSized old size) (is_size : block.size ≡ size) (is_side : block.side ≡ s) (valid : IsValid (8 * length old) block) (inside : place_of size s / 8 + size / 8 ≤ length old) where
  abbrev final : List ℕ
  final = with_block block old

  abbrev guard : ℕ
  guard = guard_of size s

  abbrev closed : ℕ
  closed = closed_word (get_or final (guard_of size s) 0)

  at_is : place_of block.size block.side / 8 ≡ place_of size s / 8
  at_is = ap (λ (n : ℕ). place_of n block.side / 8) is_size ∙ ap (λ (t : Side). place_of size t / 8) is_side

  count_is : length (words_in (block_spelling block)) ≡ size / 8
  count_is =
      let spelt = valid_spelled (8 * length old) block valid in
      let len : length (block_spelling block) ≡ size = spelt.len ∙ is_size in
      omega (arith, length_words (block_spelling block) (omega (arith, len, ok.whole)) spelt.bytes, len, ok.whole)

  fits : place_of block.size block.side / 8 + length (words_in (block_spelling block)) ≤ length old
  fits = omega (arith, at_is, count_is, inside)

  same_length : length final ≡ length old
  same_length = length_put old (place_of block.size block.side / 8) (words_in (block_spelling block)) fits

  past : (i : ℕ) → (i < place_of size s / 8) ⊎ (place_of size s / 8 + size / 8 ≤ i) → get_or final i 0 ≡ get_or old i 0
  past i away =
      put_outside old (place_of block.size block.side / 8) (words_in (block_spelling block)) i fits
      (elim away [ inl below ↦ inl (omega (arith, at_is, below)) | inr above ↦ inr (omega (arith, at_is, count_is, above)) ])

  lies : IsGuarded old final [] (guard_of size s) (guarded_by size s)
  lies = record {
    same_length = same_length;
    guard_in = omega (arith, ok.enough, inside);
    before_in = All-nil (λ p. p < length old);
    rest_in = guarded_below size s (length old) ok.enough inside;
    before_apart = All-nil (λ p. p ≢ guard_of size s);
    rest_apart = guard_apart size s ok.enough;
    outside = λ i out_slot out_block apart. past i (block_out size s i ok.enough out_block apart);
  }

  whole_at : (n : ℕ) (left : List ℕ) → IsLeftAfter old (block_steps final size s) n left → IsWhole old final [] (guard_of size s) closed (guarded_by size s) n left
  whole_at n left cut = whole old final [] (guard_of size s) closed (guarded_by size s) lies n left cut

  steps_are : length (block_steps final size s) ≡ count_of_steps size None
  steps_are = length_change final size s None ok.enough

  old_beside : (left : List ℕ) → IsOld old [] (guard_of size s) closed (guarded_by size s) left
      → (length left ≡ length old) × ((i : ℕ) → (i < place_of size s / 8) ⊎ (place_of size s / 8 + size / 8 ≤ i) → get_or left i 0 ≡ get_or old i 0)
  old_beside left (inl but) = (but.same_length, λ i away. but.same i (All-nil (λ p. p ≢ i)))
  old_beside left (inr shut) = (shut.same_length, λ i away. (let out = outside_block size s i ok.enough away in shut.same i (All-nil (λ p. p ≢ i)) out.0 out.1))

  new_beside : (left : List ℕ) → left ≡ final → (length left ≡ length old) × ((i : ℕ) → (i < place_of size s / 8) ⊎ (place_of size s / 8 + size / 8 ≤ i) → get_or left i 0 ≡ get_or old i 0)
  new_beside left is = (ap (λ (xs : List ℕ). length xs) is ∙ same_length, λ i away. ap (λ (xs : List ℕ). get_or xs i 0) is ∙ past i away)

  -- after any number of steps
  pub beside : (n : ℕ) (left : List ℕ) → IsLeftAfter old (block_steps final size s) n left
      → (length left ≡ length old) × ((i : ℕ) → (i < place_of size s / 8) ⊎ (place_of size s / 8 + size / 8 ≤ i) → get_or left i 0 ≡ get_or old i 0)
  beside n left cut =
      let w = whole_at n left cut in
      elim (cases_lt (n + 1) (length (block_steps final size s))) [
        | inl lt ↦ old_beside left (w.early lt)
        | inr ge ↦ elim (cases_lt n (length (block_steps final size s))) [
          | inl lt ↦ elim (w.last (omega (arith, ge, lt))) [ inl it ↦ old_beside left it | inr is ↦ new_beside left is ]
          | inr le ↦ new_beside left (w.done le)
        ]
      ]

  -- before the last of its steps the block is as it was, or closed
  pub early : (n : ℕ) (left : List ℕ) → n + 1 < count_of_steps size None → IsLeftAfter old (block_steps final size s) n left
      → (index_reading (bytes_of left) s ≡ index_reading (bytes_of old) s) ⊎ ((fault : IndexFault) × (index_reading (bytes_of left) s ≡ Err fault))
  early n left lt cut = by ((whole_at n left cut).early (omega (arith, lt, steps_are)))
    where
      by : IsOld old [] (guard_of size s) closed (guarded_by size s) left → (index_reading (bytes_of left) s ≡ index_reading (bytes_of old) s) ⊎ ((fault : IndexFault) × (index_reading (bytes_of left) s ≡ Err fault))
      by (inl but) = inl (same_reading left old size s but.same_length ok (λ i from to. but.same i (All-nil (λ p. p ≢ i))))
      by (inr shut) = inr (closed_reading left size s (sized_as left old size shut.same_length ok) (omega (arith, shut.shut)))

-- ---- both blocks

module _ (words : List ℕ) (size slots : ℕ) (ok : IsInit words size slots) where
  abbrev one : IndexBlock
  one = empty_block size slots side.One 2

  abbrev two : IndexBlock
  two = empty_block size slots side.Zero 3

  abbrev half : List ℕ
  half = half_words words size slots

  abbrev first : List Step
  first = block_steps half size side.One

  abbrev second : List Step
  second = block_steps (full_words words size slots) size side.Zero

  words_sized : IsSized words size
  words_sized = sized words size slots ok

  half_sized : IsSized half size
  half_sized = sized_as half words size (half_length words size slots ok) words_sized

  two_valid : IsValid (8 * length half) two
  two_valid = next_valid half one None None (change words size slots ok)

  inside_one : place_of size side.One / 8 + size / 8 ≤ length words
  inside_one = omega (arith, words_sized.inside, words_sized.whole)

  inside_two : place_of size side.Zero / 8 + size / 8 ≤ length half
  inside_two = omega (arith, half_sized.inside, half_sized.whole)

  -- a crash in the steps of the first block, and behind them
  in_first : (n : ℕ) (left : List ℕ) → n ≤ length first → IsLeftAfter words (first ++ second) n left → IsLeftAfter words first n left
  in_first n left le cut = subst (λ steps. IsLeft (after (settled words) steps) left) (take-append-le n first second le) cut

  in_second : (m : ℕ) (left : List ℕ) → IsLeftAfter words (first ++ second) (length first + m) left → IsLeftAfter half second m left
  in_second m left cut =
      let at : after (settled words) (take (length first + m) (first ++ second)) ≡ after (settled half) (take m second) =
      ap (after (settled words)) (take-append-add first second m) ∙ after-append first (take m second) (settled words)
      ∙ ap (λ (ws : Words). after ws (take m second)) (half_settled words size slots ok) in
      subst (λ (ws : Words). IsLeft ws left) at cut

  none_before : ((x : IndexBlock) → index_reading (bytes_of words) side.Zero ≢ Ok x) × ((x : IndexBlock) → index_reading (bytes_of words) side.One ≢ Ok x)
  none_before = none_read (index_reading (bytes_of words) side.Zero) (index_reading (bytes_of words) side.One) _ ok.refused

  -- the block of side Zero is as it was, as long as the other is written
  zero_before : (n : ℕ) (left : List ℕ) → n ≤ length first → IsLeftAfter words (first ++ second) n left → index_reading (bytes_of left) side.Zero ≡ index_reading (bytes_of words) side.Zero
  zero_before n left le cut =
      let it = beside words size side.One one words_sized refl refl (half_valid words size slots ok) inside_one n left (in_first n left le cut) in
      same_reading left words size side.Zero it.0 words_sized (λ i from to. it.1 i (inl (omega (arith, to, words_sized.whole))))

  zero_half : index_reading (bytes_of half) side.Zero ≡ index_reading (bytes_of words) side.Zero
  zero_half =
      let it = new_beside words size side.One one words_sized refl refl (half_valid words size slots ok) inside_one half refl in
      same_reading half words size side.Zero it.0 words_sized (λ i from to. it.1 i (inl (omega (arith, to, words_sized.whole))))

  -- that of side One stays when the other is written
  one_stays : (m : ℕ) (left : List ℕ) → IsLeftAfter half second m left → index_reading (bytes_of left) side.One ≡ Ok one
  one_stays m left cut =
      let it = beside half size side.Zero two half_sized refl refl two_valid inside_two m left cut in
      same_reading left half size side.One it.0 half_sized (λ i from to. it.1 i (inr (omega (arith, from, half_sized.whole))))
      ∙ (is_current half size one half_sized (half_block words size slots ok)).here

  count_first : length first ≡ count_of_steps size None
  count_first = first_count words size slots ok

  later : (n : ℕ) (left : List ℕ) → count_of_steps size None ≤ n → IsLeftAfter words (first ++ second) n left → IsLeftAfter half second (n - count_of_steps size None) left
  later n left le cut = in_second (n - count_of_steps size None) left (subst (λ (k : ℕ). IsLeftAfter words (first ++ second) k left) (omega (arith, count_first, le)) cut)

  no_zero_early : (n : ℕ) (left : List ℕ) → n ≤ count_of_steps size None → IsLeftAfter words (first ++ second) n left → (block : IndexBlock) → index_reading (bytes_of left) side.Zero ≢ Ok block
  no_zero_early n left le cut block is = none_before.0 block (sym (zero_before n left (omega (arith, count_first, le)) cut) ∙ is)

  no_zero_late : (m : ℕ) (left : List ℕ) → m + 1 < count_of_steps size None → IsLeftAfter half second m left → (block : IndexBlock) → index_reading (bytes_of left) side.Zero ≢ Ok block
  no_zero_late m left lt cut block is =
      elim (early half size side.Zero two half_sized refl refl two_valid inside_two m left lt cut) [
        | inl same ↦ none_before.0 block (sym zero_half ∙ sym same ∙ is)
        | inr shut ↦ (let e = sym shut.1 ∙ is in cc)
      ]

  no_one : (n : ℕ) (left : List ℕ) → n + 1 < count_of_steps size None → IsLeftAfter words (first ++ second) n left → (block : IndexBlock) → index_reading (bytes_of left) side.One ≢ Ok block
  no_one n left lt cut block is =
      elim (early words size side.One one words_sized refl refl (half_valid words size slots ok) inside_one n left lt (in_first n left (omega (arith, count_first, lt)) cut)) [
        | inl same ↦ none_before.1 block (sym same ∙ is)
        | inr shut ↦ (let e = sym shut.1 ∙ is in cc)
      ]

  left_length : (n : ℕ) (left : List ℕ) → count_of_steps size None ≤ n → IsLeftAfter words (first ++ second) n left → length left ≡ length half
  left_length n left le cut = (beside half size side.Zero two half_sized refl refl two_valid inside_two (n - count_of_steps size None) left (later n left le cut)).0

  pub has_blocks : (n : ℕ) (left : List ℕ) → IsLeftAfter words (first ++ second) n left → HasBlocks size slots n left
  has_blocks n left cut = record {
    no_first = λ lt. no_one n left lt cut;
    first = λ le. one_stays (n - count_of_steps size None) left (later n left le cut);
    no_second = λ lt block. elim (cases_lt (count_of_steps size None) n) [
      | inl le ↦ no_zero_late (n - count_of_steps size None) left (omega (arith, lt, le)) (later n left (omega (arith, le)) cut) block
      | inr le ↦ no_zero_early n left le cut block
    ];
    second = λ le.
        let shown = (init_cut words size slots ok n left cut).after le in
        (is_current left size two (sized_as left half size (left_length n left (omega (arith, le)) cut) half_sized) shown.current).here;
  }

  abbrev steps : List Step
  steps = init_steps words size slots

  count_both : length steps ≡ 2 * count_of_steps size None
  count_both = length-append first second ∙ omega (arith, count_first, length_change (full_words words size slots) size side.Zero None words_sized.enough)

  -- after the steps that a fuse allows
  pub blocks_under : (fuse : Option ℕ) (left : List ℕ) → IsLeft (after (settled words) (allowed fuse steps)) left → HasBlocks size slots (steps_under fuse (2 * count_of_steps size None)) left
  blocks_under None left cut =
      has_blocks (2 * count_of_steps size None) left
      (subst (λ (xs : List Step). IsLeft (after (settled words) xs) left) (sym (take_all (2 * count_of_steps size None) steps (omega (arith, count_both)))) cut)
  blocks_under (Some n) left cut = has_blocks n left cut
