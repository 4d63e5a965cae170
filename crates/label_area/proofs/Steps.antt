-- The steps that the code makes are those that write a block, and a label if there is one.
use Rattle.std.proofs.Common.{◌≡◌, ◌⊎◌, ℕ, zero, suc, ◌+◌, ◌-◌, ◌*◌, ◌/◌, ◌%◌, ◌^◌, ◌<◌, ◌≤◌, List, [], ◌∷◌, ◌++◌, length, take, drop, get_or, Option, Some, None, refl, sym, ap, ◌∙◌, subst, arith, inl, inr}
use Rattle.std.specs.List.{range_with_len}
use Rattle.std.proofs.lemmas.List.{get_or_append_left, get_or-append_right, length-take-le, length-drop, get_or-take, get_or-drop}
use Rattle.cut_words.specs.Words.{Words, Step, store}
use Rattle.cut_words.specs.Groups.{stores, keeps, group, written}
use Rattle.cut_words.specs.WordBytes.{words_in, put_at}
use Rattle.cut_words.specs.Runs.{stores_from, run_steps}
use Rattle.cut_words.proofs.Put.{put_outside, length_put, length_words}
use Rattle.label_codec.specs.declared.label.Label.{Label}
use Rattle.label_codec.specs.Label.{spelling_of as label_spelling}
use Rattle.label_index.specs.declared.index.IndexBlock.{IndexBlock}
use Rattle.label_index.specs.declared.index.Side.{Side}
use Rattle.label_index.specs.declared.index.Side.TheVariants as side
use Rattle.label_index.specs.Index.{place_of}
use Rattle.label_index.specs.Spelling.{spelling_of as block_spelling}
use Rattle.label_index.specs.Valid.{IsValid}
use Rattle.label_index.specs.Area.{IsAreaSize}
use Rattle.label_index.proofs.Greatest.{slots_fit}
use Rattle.label_codec.specs.Writable.{IsWritable as IsWritableLabel}
use Rattle.label_area.specs.Change.{guard_of, guarded_by, words_of_slot, closed_word, slot_of_put, with_label}
use Rattle.label_area.specs.Writing.{others_keeps, others_steps, block_steps_from, IsLabelAt, words_with, writing_steps, CanWrite}
use Rattle.label_area.proofs.Before.{past_blocks}
use Rattle.label_area.proofs.Spellings.{IsSpelled, IsSpelledLabel, valid_spelled, writable_spelled}
use Rattle.label_area.proofs.Written.{PutFits, length_labelled, words_of_label}

pub put_inside : (words : List ℕ) (at : ℕ) (others : List ℕ) (i : ℕ) → at + length others ≤ length words → i < length others → get_or (put_at words at others) (at + i) 0 ≡ get_or others i 0
put_inside words at others i fits lt =
    get_or-append_right (take at words) (others ++ drop (at + length others) words) at (at + i) 0 (length-take-le at words (omega arith)) (omega arith)
    ∙ ap (λ (k : ℕ). get_or (others ++ drop (at + length others) words) k 0) (omega arith)
    ∙ get_or_append_left others (drop (at + length others) words) 0 i lt

pub stores_from_is : (final values : List ℕ) (base : ℕ) → ((i : ℕ) → i < length values → get_or final (base + i) 0 ≡ get_or values i 0) → stores_from base values ≡ stores final (range_with_len base (length values))
stores_from_is final [] base same = refl
stores_from_is final (v ∷ values) base same =
    ap (λ (x : ℕ). store base x ∷ stores_from (base + 1) values) (sym (ap (λ (k : ℕ). get_or final k 0) (omega arith) ∙ same zero (omega arith)))
    ∙ ap (λ (steps : List Step). store base (get_or final base 0) ∷ steps)
    (stores_from_is final values (base + 1) (λ i lt. ap (λ (k : ℕ). get_or final k 0) (omega arith) ∙ same (suc i) (omega arith)))

pub block_below : (size : ℕ) (s : Side) → size % 256 ≡ 0 → place_of size s / 8 + size / 8 ≤ 2 * size / 8
block_below size side.Zero whole = omega arith
block_below size side.One whole = omega arith

-- the size of a valid block
pub record HasSize (size count : ℕ) : Type 0 where
  pub whole : size % 256 ≡ 0
  pub enough : 256 ≤ size
  pub inside : 2 * size ≤ 8 * count

pub valid_size : (count : ℕ) (block : IndexBlock) → IsValid (8 * count) block → HasSize block.size count
valid_size count block ok = record {
  whole = omega (arith, ok.whole);
  enough = omega (arith, ok.whole);
  inside = omega (arith, ok.fits);
}

module _ (words : List ℕ) (next : IndexBlock) (put : Option Label) (valid : IsValid (8 * length words) next) (fits : PutFits next.size put (length words)) where
  abbrev labelled : List ℕ
  labelled = with_label next.size put words

  abbrev final : List ℕ
  final = words_with words next put

  abbrev block : List ℕ
  block = words_in (block_spelling next)

  abbrev base : ℕ
  base = place_of next.size next.side / 8

  abbrev guard : ℕ
  guard = guard_of next.size next.side

  sizes : HasSize next.size (length words)
  sizes = valid_size (length words) next valid

  pub spelled : IsSpelled (8 * length words) next
  spelled = valid_spelled (8 * length words) next valid

  -- the places of the writes
  pub block_words : length block ≡ next.size / 8
  block_words = omega (arith, length_words (block_spelling next) (omega (arith, spelled.len, sizes.whole)) spelled.bytes, spelled.len, sizes.whole)

  pub block_inside : place_of next.size next.side / 8 + next.size / 8 ≤ length words
  block_inside = omega (arith, block_below next.size next.side sizes.whole, sizes.inside, sizes.whole)

  pub labelled_length : length labelled ≡ length words
  labelled_length = length_labelled next.size put words fits

  pub final_length : length final ≡ length words
  final_length = length_put labelled base block (omega (arith, block_words, block_inside, labelled_length)) ∙ labelled_length

  pub past_block : (i : ℕ) → (i < place_of next.size next.side / 8) ⊎ (place_of next.size next.side / 8 + next.size / 8 ≤ i) → get_or final i 0 ≡ get_or labelled i 0
  past_block i away =
      put_outside labelled base block i (omega (arith, block_words, block_inside, labelled_length))
      (elim away [ inl below ↦ inl below | inr above ↦ inr (omega (arith, block_words)) ])

  in_block : (i : ℕ) → i < length block → get_or final (base + i) 0 ≡ get_or block i 0
  in_block i lt = put_inside labelled base block i (omega (arith, block_words, block_inside, labelled_length)) lt

  -- the block's steps
  guard_is : get_or block 2 0 ≡ get_or final guard 0
  guard_is = sym (in_block 2 (omega (arith, block_words, sizes.enough)))

  two : length (take 2 block) ≡ 2
  two = length-take-le 2 block (omega (arith, block_words, sizes.enough))

  first_two : stores_from base (take 2 block) ≡ stores final (range_with_len base 2)
  first_two =
      stores_from_is final (take 2 block) base (λ i lt. in_block i (omega (arith, two, block_words, sizes.enough)) ∙ sym (get_or-take 2 block i 0 (omega (arith, two))))
      ∙ ap (λ (n : ℕ). stores final (range_with_len base n)) two

  after_three : stores_from (base + 3) (drop 3 block) ≡ stores final (range_with_len (base + 3) (next.size / 8 - 3))
  after_three =
      stores_from_is final (drop 3 block) (base + 3)
      (λ i lt. ap (λ (k : ℕ). get_or final k 0) (omega arith) ∙ in_block (3 + i) (omega (arith, length-drop 3 block)) ∙ sym (get_or-drop 3 block i 0))
      ∙ ap (λ (n : ℕ). stores final (range_with_len (base + 3) n)) (length-drop 3 block ∙ ap (λ (n : ℕ). n - 3) block_words)

  others_is : others_steps base block ≡ group final (guarded_by next.size next.side)
  others_is =
      ap (λ (steps : List Step). (steps ++ stores_from (base + 3) (drop 3 block)) ++ others_keeps base (length block)) first_two
      ∙ ap (λ (steps : List Step). (stores final (range_with_len base 2) ++ steps) ++ others_keeps base (length block)) after_three
      ∙ ap (λ (n : ℕ). (stores final (range_with_len base 2) ++ stores final (range_with_len (base + 3) (next.size / 8 - 3))) ++ others_keeps base n) block_words

  block_is : block_steps_from base block ≡ written guard (closed_word (get_or final guard 0)) ++ (group final (guarded_by next.size next.side) ++ written guard (get_or final guard 0))
  block_is =
      ap (λ (v : ℕ). written (base + 2) (v % 2 ^ 32) ++ (others_steps base block ++ written (base + 2) v)) guard_is
      ∙ ap (λ (steps : List Step). written (base + 2) (closed_word (get_or final guard 0)) ++ (steps ++ written (base + 2) (get_or final guard 0))) others_is

-- the label's steps
label_is : (words : List ℕ) (next : IndexBlock) (put : Option Label) (valid : IsValid (8 * length words) next) (fits : PutFits next.size put (length words)) (at : ℕ) (label : List ℕ)
    → IsLabelAt next.size put at label → run_steps at label ≡ group (words_with words next put) (words_of_slot next.size (slot_of_put put))
label_is words next None valid fits at label is = ap (run_steps at) is
label_is words next (Some l) valid fits at label is =
    let f = fits l refl in
    let size : HasSize next.size (length words) = valid_size (length words) next valid in
    let spot : ℕ = 2 * next.size / 8 + 32 * l.slot in
    let many : length (words_in (label_spelling l)) ≡ 32 = words_of_label l f.1 in
    let values : (i : ℕ) → i < length (words_in (label_spelling l)) → get_or (words_with words next (Some l)) (2 * next.size / 8 + 32 * l.slot + i) 0 ≡ get_or (words_in (label_spelling l)) i 0 =
    λ i lt. past_block words next (Some l) valid fits (2 * next.size / 8 + 32 * l.slot + i) (past_blocks next.size next.side (2 * next.size / 8 + 32 * l.slot + i) size.whole (omega arith))
    ∙ put_inside words (2 * next.size / 8 + 32 * l.slot) (words_in (label_spelling l)) i (omega (arith, f.0, many)) lt in
    ap (λ (k : ℕ). run_steps k label) is.0 ∙ ap (run_steps (2 * next.size / 8 + 32 * l.slot)) is.1
    ∙ ap (λ (steps : List Step). steps ++ keeps (range_with_len (2 * next.size / 8 + 32 * l.slot) (length (words_in (label_spelling l)))))
    (stores_from_is (words_with words next (Some l)) (words_in (label_spelling l)) (2 * next.size / 8 + 32 * l.slot) values)
    ∙ ap (λ (n : ℕ). group (words_with words next (Some l)) (range_with_len (2 * next.size / 8 + 32 * l.slot) n)) many

pub writing_is : (words : List ℕ) (next : IndexBlock) (put : Option Label) (valid : IsValid (8 * length words) next) (fits : PutFits next.size put (length words)) (at : ℕ) (label : List ℕ) (place : ℕ) (block : List ℕ)
    → IsLabelAt next.size put at label → place ≡ place_of next.size next.side / 8 → block ≡ words_in (block_spelling next)
    → run_steps at label ++ block_steps_from place block ≡ writing_steps words next put
writing_is words next put valid fits at label place block lab pl bl =
    ap (λ (steps : List Step). steps ++ block_steps_from place block) (label_is words next put valid fits at label lab)
    ∙ ap (λ (steps : List Step). group (words_with words next put) (words_of_slot next.size (slot_of_put put)) ++ steps)
    (ap (λ (k : ℕ). block_steps_from k block) pl ∙ ap (block_steps_from (place_of next.size next.side / 8)) bl ∙ block_is words next put valid fits)

-- ---- what the code writes

pub few_words : (count : ℕ) (block : IndexBlock) → IsValid (8 * count) block → block.size ≤ 768
few_words count block ok =
    let area : IsAreaSize (8 * count) = ok.sized in
    omega (arith, ok.whole, slots_fit (8 * count) area, area.high)

pub steps_alone : (words : Words) (next : IndexBlock) (put : Option Label) → CanWrite words next put → put ≡ None → (place : ℕ) (block : List ℕ) → place ≡ place_of next.size next.side / 8
    → block ≡ words_in (block_spelling next) → run_steps 0 [] ++ block_steps_from place block ≡ writing_steps words.kept next put
steps_alone words next put ok is place block pl bl =
    let fits : PutFits next.size None (length words.kept) = λ l e. absurd (cc) in
    writing_is words.kept next None ok.valid fits 0 [] place block refl pl bl ∙ ap (writing_steps words.kept next) (sym is)

pub steps_both : (words : Words) (next : IndexBlock) (put : Option Label) → CanWrite words next put → (l : Label) → put ≡ Some l → IsWritableLabel l → (at : ℕ) → at ≡ next.size / 4 + 32 * l.slot
    → (label : List ℕ) → label ≡ words_in (label_spelling l) → (place : ℕ) (block : List ℕ) → place ≡ place_of next.size next.side / 8 → block ≡ words_in (block_spelling next)
    → run_steps at label ++ block_steps_from place block ≡ writing_steps words.kept next put
steps_both words next put ok l is writable at at_is label label_is place block pl bl =
    let size : HasSize next.size (length words.kept) = valid_size (length words.kept) next ok.valid in
    let fits : PutFits next.size (Some l) (length words.kept) =
    λ m e. let same : m ≡ l = cc in subst (λ (k : Label). (2 * next.size / 8 + 32 * k.slot + 32 ≤ length words.kept) × IsSpelledLabel k) (sym same)
    (omega (arith, ok.room l is, size.whole), writable_spelled l writable) in
    writing_is words.kept next (Some l) ok.valid fits at label place block (omega (arith, at_is, size.whole), label_is) pl bl ∙ ap (writing_steps words.kept next) (sym is)
