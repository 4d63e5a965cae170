-- An area after a repair.
use Rattle.std.proofs.Common.{◌≡◌, ◌⊎◌, ℕ, ◌+◌, ◌*◌, ◌/◌, ◌<◌, ◌≤◌, List, length, take, drop, get_or, Ok, Option, Some, None, refl, sym, ap, ◌∙◌, subst, arith, inl, inr}
use Rattle.std.specs.Prelude.{slice_get}
use Rattle.std.proofs.lemmas.Bool.{cases_lt}
use Rattle.std.proofs.lemmas.Option.{slice_get-get_or, slice_get_past}
use Rattle.cut_words.specs.WordBytes.{bytes_of}
use Rattle.cut_words.proofs.Bytes.{same_bytes}
use Rattle.cut_words.proofs.Put.{put_bytes}
use Rattle.label_index.specs.declared.index.IndexBlock.{IndexBlock}
use Rattle.label_index.specs.declared.index.Side.{Side}
use Rattle.label_index.specs.declared.index.Side.TheVariants as side
use Rattle.label_index.specs.Area.{IsAreaSize}
use Rattle.label_index.specs.Index.{block_reading, index_reading, place_of}
use Rattle.label_index.specs.Spelling.{spelling_of}
use Rattle.label_index.specs.Valid.{IsValid}
use Rattle.label_area.specs.Area.{block_in, slots_by, slots_in, slots_with}
use Rattle.label_area.specs.Change.{opposite, with_block}
use Rattle.label_area.proofs.Before.{sized_as, reading_is, same_reading, same_slots, other_block, past_blocks}
use Rattle.label_area.proofs.After.{block_new}
use Rattle.label_area.proofs.Spellings.{IsSpelled, valid_spelled}
use Rattle.label_repair.specs.declared.repair.IndexRepair.{IndexRepair}
use Rattle.label_repair.specs.Repair.{older_block, repair_in, repaired_words, words_with}
use Rattle.label_repair.specs.Laws.{RepairIsOnce, RepairIsRead, RepairKeepsLabels, RepairStaysInside, IsOutside}
use Rattle.label_repair.proofs.Found.{IsBefore, before_is, older_valid, HasRepair, repair_found}
use Rattle.label_repair.proofs.Alone.{block_inside, same_length, outside}

twice : (s : Side) → opposite (opposite s) ≡ s
twice side.Zero = refl
twice side.One = refl

both_valid : (area : List ℕ) (s : Side) (a b : IndexBlock) → index_reading area s ≡ Ok a → index_reading area (opposite s) ≡ Ok b → repair_in area ≡ None
both_valid area side.Zero a b here there = rw (here, there) refl
both_valid area side.One a b here there = rw (here, there) refl

module _ (words : List ℕ) (now : IndexBlock) (repair : IndexRepair) (it : HasRepair words now repair) where
  abbrev older : IndexBlock
  older = older_block now

  abbrev other : Side
  other = opposite now.side

  abbrev final : List ℕ
  final = with_block older words

  valid : IsValid (8 * length words) older
  valid = older_valid (8 * length words) now it.here.valid

  spelled : IsSpelled (8 * length words) older
  spelled = valid_spelled (8 * length words) older valid

  before : IsBefore now.seq
  before = before_is now.seq it.here.seq

  long : length final ≡ length words
  long = same_length words older valid

  past : (i : ℕ) → (i < place_of now.size other / 8) ⊎ (place_of now.size other / 8 + now.size / 8 ≤ i) → get_or final i 0 ≡ get_or words i 0
  past i away = outside words older valid i away

  -- both sides are read
  older_reads : index_reading (bytes_of final) other ≡ Ok older
  older_reads =
      reading_is final now.size other (sized_as final words now.size long it.sized)
      ∙ ap (λ (n : ℕ). block_reading (8 * n) now.size other (take (8 * (now.size / 8)) (drop (8 * (place_of now.size other / 8)) (bytes_of final)))) long
      ∙ ap (block_reading (8 * length words) now.size other)
      (put_bytes words (place_of now.size other / 8) (spelling_of older) (now.size / 8) (block_inside words older valid) (omega (arith, spelled.len, it.sized.whole)) spelled.bytes)
      ∙ spelled.reads

  now_reads : index_reading (bytes_of final) now.side ≡ Ok now
  now_reads =
      same_reading final words now.size now.side long it.sized (λ i from to. past i (other_block now.size now.side i it.sized.whole from to)) ∙ it.here.here

  -- the block that was current stays so, and its slots are the same
  final_block : block_in (bytes_of final) ≡ Ok now
  final_block =
      block_new (bytes_of final) older now other before.ring before.back older_reads
      (ap (index_reading (bytes_of final)) (twice now.side) ∙ now_reads)

  final_slots : slots_by (bytes_of final) now ≡ slots_by (bytes_of words) now
  final_slots =
      same_slots (bytes_of final) (bytes_of words) now.size 0 now.free
      (λ n lt used. subst (λ (at : ℕ). take 256 (drop at (bytes_of final)) ≡ take 256 (drop at (bytes_of words))) (omega (arith, it.sized.whole))
      (same_bytes final words (2 * now.size / 8 + 32 * n) 32 long (λ i from to. past i (past_blocks now.size other i it.sized.whole (omega arith)))))

  pub same_block : block_in (bytes_of final) ≡ block_in (bytes_of words)
  same_block = final_block ∙ sym it.current

  pub same_listed : slots_in (bytes_of final) ≡ slots_in (bytes_of words)
  same_listed = ap (slots_with (bytes_of final)) final_block ∙ ap Ok final_slots ∙ sym (ap (slots_with (bytes_of words)) it.current)

  pub none_left : repair_in (bytes_of final) ≡ None
  none_left = both_valid (bytes_of final) now.side now older now_reads older_reads

  pub reads_written : index_reading (bytes_of final) repair.block.side ≡ Ok repair.block
  reads_written = subst (λ (b : IndexBlock). index_reading (bytes_of final) b.side ≡ Ok b) (sym it.block) older_reads

  pub as_many : length final ≡ length words
  as_many = long

  pub stays : (i : ℕ) → IsOutside repair i → slice_get final i ≡ slice_get words i
  stays i out =
      let away = subst (λ (b : IndexBlock). (i < place_of b.size b.side / 8) ⊎ (place_of b.size b.side / 8 + b.size / 8 ≤ i)) it.block out in
      elim (cases_lt i (length words)) [
        | inl lt ↦ slice_get-get_or final i 0 (omega (arith, long)) ∙ ap Some (past i away) ∙ sym (slice_get-get_or words i 0 lt)
        | inr ge ↦ slice_get_past final i (omega (arith, long)) ∙ sym (slice_get_past words i ge)
      ]

-- ---- the words after a repair, if there is one or not

unrepaired : (words : List ℕ) → repair_in (bytes_of words) ≡ None → repaired_words words ≡ words
unrepaired words is = ap (λ (found : Option IndexRepair). words_with found words) is

rewritten : (words : List ℕ) (now : IndexBlock) (repair : IndexRepair) → HasRepair words now repair → repair_in (bytes_of words) ≡ Some repair → repaired_words words ≡ with_block (older_block now) words
rewritten words now repair it is = ap (λ (found : Option IndexRepair). words_with found words) is ∙ ap (λ (b : IndexBlock). with_block b words) it.block

-- what holds of an area that stays, and of one that a block is written in, holds after a repair
after_repair : (P : List ℕ → Type 0) (words : List ℕ) (found : Option IndexRepair) → repair_in (bytes_of words) ≡ found → IsAreaSize (8 * length words)
    → (repair_in (bytes_of words) ≡ None → P words) → ((now : IndexBlock) (repair : IndexRepair) → HasRepair words now repair → P (with_block (older_block now) words)) → P (repaired_words words)
after_repair P words None is size none some = subst P (sym (unrepaired words is)) (none is)
after_repair P words (Some repair) is size none some =
    let it = repair_found words repair size is in
    subst P (sym (rewritten words it.0 repair it.1 is)) (some it.0 repair it.1)

pub repair_is_read : RepairIsRead
repair_is_read words repair size is =
    let it = repair_found words repair size is in
    ap (λ (ws : List ℕ). index_reading (bytes_of ws) repair.block.side) (rewritten words it.0 repair it.1 is) ∙ reads_written words it.0 repair it.1

pub repair_keeps_labels : RepairKeepsLabels
repair_keeps_labels words size =
    after_repair (λ (ws : List ℕ). (block_in (bytes_of ws) ≡ block_in (bytes_of words)) × (slots_in (bytes_of ws) ≡ slots_in (bytes_of words)))
    words (repair_in (bytes_of words)) refl size (λ is. (refl, refl)) (λ now repair it. (same_block words now repair it, same_listed words now repair it))

pub repair_is_once : RepairIsOnce
repair_is_once words size =
    after_repair (λ (ws : List ℕ). repair_in (bytes_of ws) ≡ None) words (repair_in (bytes_of words)) refl size (λ is. is) (λ now repair it. none_left words now repair it)

pub repaired_length : (words : List ℕ) → IsAreaSize (8 * length words) → length (repaired_words words) ≡ length words
repaired_length words size =
    after_repair (λ (ws : List ℕ). length ws ≡ length words) words (repair_in (bytes_of words)) refl size (λ is. refl) (λ now repair it. as_many words now repair it)

pub repair_stays_inside : RepairStaysInside
repair_stays_inside words size = (
  repaired_length words size,
  λ repair i is out. let it = repair_found words repair size is in
      ap (λ (ws : List ℕ). slice_get ws i) (rewritten words it.0 repair it.1 is) ∙ stays words it.0 repair it.1 i out,
)
