-- The stores and flushes of a change as the code makes them, and the words after a crash.
use Rattle.std.specs.Prelude.{◌≡◌, ◌⊎◌, ℕ, ◌+◌, ◌-◌, ◌*◌, ◌/◌, ◌%◌, ◌^◌, ◌<◌, ◌≤◌, Bool, true, List, [], ◌++◌, length, take, drop, slice_index, Option, Some, None}
use Rattle.label_codec.specs.declared.label.Label.{Label}
use Rattle.label_codec.specs.Label.{spelling_of as label_spelling}
use Rattle.label_index.specs.declared.index.IndexBlock.{IndexBlock}
use Rattle.label_index.specs.Index.{place_of}
use Rattle.label_index.specs.Spelling.{spelling_of as block_spelling}
use Rattle.cut_words.specs.Words.{Words, Step, settled, IsLeft}
use Rattle.cut_words.specs.Groups.{written}
use Rattle.cut_words.specs.Runs.{NonePending, stores_from, keeps_from}
use Rattle.cut_words.specs.WordBytes.{words_in}
use Rattle.label_codec.specs.Writable.{IsSound}
use Rattle.label_index.specs.Valid.{IsValid}
use Rattle.label_area.specs.Change.{opposite, slot_of_put, next_block, with_label, with_block, words_after, change_steps}
use Rattle.label_area.specs.Whole.{IsChange, Shows, slots_before, slots_after}

-- ---- steps

-- the words of a block, except the third, which has Seq
abbrev pub others_stores : ℕ → List ℕ → List Step
others_stores base block = stores_from base (take 2 block) ++ stores_from (base + 3) (drop 3 block)

abbrev pub others_keeps : ℕ → ℕ → List Step
others_keeps base count = keeps_from base 2 ++ keeps_from (base + 3) (count - 3)

abbrev pub others_steps : ℕ → List ℕ → List Step
others_steps base block = others_stores base block ++ others_keeps base (length block)

-- the words of a block from `base` on: the third closed, the others, and the third opened
abbrev pub block_steps_from : ℕ → List ℕ → List Step
block_steps_from base block = written (base + 2) (slice_index block 2 % 2 ^ 32) ++ (others_steps base block ++ written (base + 2) (slice_index block 2))

-- the words with a block on its side, and with a label in its slot, if there is one
abbrev pub words_with : List ℕ → IndexBlock → Option Label → List ℕ
words_with words block put = with_block block (with_label block.size put words)

-- the steps that write them: those of a change of labels, or of a block alone
abbrev pub writing_steps : List ℕ → IndexBlock → Option Label → List Step
writing_steps words block put = change_steps (words_with words block put) block.size block.side (slot_of_put put)

-- a block, and a label if there is one, that can be written into words
pub record CanWrite (words : Words) (block : IndexBlock) (put : Option Label) : Type 0 where
  pub none_pending : words ≡ settled words.kept
  pub valid : IsValid (8 * length words.kept) block
  pub room : (l : Label) → put ≡ Some l → 2 * block.size + 256 * l.slot + 256 ≤ 8 * length words.kept
  pub sound : (l : Label) → put ≡ Some l → IsSound l

-- A label's words and those of a block can be written at these places.
pub record CanChange (words : Words) (label_at : ℕ) (label : List ℕ) (block_at : ℕ) (block : List ℕ) : Type 0 where
  pub label_inside : label_at + length label ≤ length words.kept
  pub block_inside : block_at + length block ≤ length words.kept
  pub small : length words.kept < 2 ^ 60
  -- the block has the word with Seq
  pub enough : 3 ≤ length block
  pub label_settled : NonePending words label_at (length label)
  pub block_settled : NonePending words block_at (length block)

-- ---- after a crash

-- a label's words and their place; no words if no label is put
abbrev pub IsLabelAt : ℕ → Option Label → ℕ → List ℕ → Type 0
IsLabelAt size None at label = label ≡ []
IsLabelAt size (Some l) at label = (at ≡ 2 * size / 8 + 32 * l.slot) × (label ≡ words_in (label_spelling l))

-- The words after a crash, if a change was begun on words none of which was pending, with the words of that change at their
-- places: they show the area before or after it, and if the change was completed, the area after it.
abbrev pub IsWholeAfter : Words → Words → ℕ → List ℕ → ℕ → List ℕ → Bool → Type 0
IsWholeAfter old new label_at label block_at block made =
    (words : List ℕ) (now : IndexBlock) (out : Option ℕ) (put : Option Label) (left : List ℕ) → old ≡ settled words → IsChange words now out put
    → IsLabelAt now.size put label_at label → block_at ≡ place_of now.size (opposite now.side) / 8 → block ≡ words_in (block_spelling (next_block now out put)) → IsLeft new left
    → (Shows left now (slots_before words now) ⊎ Shows left (next_block now out put) (slots_after words now out put))
    × (made ≡ true → Shows left (next_block now out put) (slots_after words now out put))

-- if the change was completed, no word is pending, and the words are those after it, so another change may follow
abbrev pub SettlesAfter : Words → Words → ℕ → List ℕ → ℕ → List ℕ → Bool → Type 0
SettlesAfter old new label_at label block_at block made =
    (words : List ℕ) (now : IndexBlock) (out : Option ℕ) (put : Option Label) → old ≡ settled words → IsChange words now out put
    → IsLabelAt now.size put label_at label → block_at ≡ place_of now.size (opposite now.side) / 8 → block ≡ words_in (block_spelling (next_block now out put))
    → made ≡ true → new ≡ settled (words_after words now out put)
