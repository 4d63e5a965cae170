-- A crash never splits a label change: this project's rule.
use Rattle.std.specs.Prelude.{◌≡◌, ◌⊎◌, ℕ, ◌+◌, ◌<◌, ◌≤◌, List, length, Option, Some, None, Ok}
use Rattle.label_codec.specs.declared.label.Label.{Label}
use Rattle.label_codec.specs.Writable.{IsWritable}
use Rattle.label_index.specs.declared.index.IndexBlock.{IndexBlock}
use Rattle.label_index.specs.Area.{IsAreaSize}
use Rattle.cut_words.specs.WordBytes.{bytes_of}
use Rattle.cut_words.specs.Words.{after, settled, IsLeftAfter}
use Rattle.label_area.specs.Area.{SlotState, block_in, slots_by, slots_in}
use Rattle.label_area.specs.Change.{next_block, slot_of_put, IsFreeSlot, with_put, without, words_after, replace_steps, count_of_steps}

-- a change of an area's words, whose current block is `now`: a slot is freed, and a label is put into a free one
pub record IsChange (words : List ℕ) (now : IndexBlock) (out : Option ℕ) (put : Option Label) : Type 0 where
  pub area : IsAreaSize (length (bytes_of words))
  pub current : block_in (bytes_of words) ≡ Ok now
  pub free : IsFreeSlot now.free (slot_of_put put)
  pub label : (l : Label) → put ≡ Some l → IsWritable l

-- the slots before, and after
abbrev pub slots_before : List ℕ → IndexBlock → List SlotState
slots_before words now = slots_by (bytes_of words) now

abbrev pub slots_after : List ℕ → IndexBlock → Option ℕ → Option Label → List SlotState
slots_after words now out put = without out (with_put put (slots_before words now))

-- an area's current block, and its slots
pub record Shows (words : List ℕ) (block : IndexBlock) (slots : List SlotState) : Type 0 where
  pub current : block_in (bytes_of words) ≡ Ok block
  pub listed : slots_in (bytes_of words) ≡ Ok slots

-- the area after a crash that follows n steps
pub record IsCut (words : List ℕ) (now : IndexBlock) (out : Option ℕ) (put : Option Label) (n : ℕ) (left : List ℕ) : Type 0 where
  pub before : n + 1 < count_of_steps now.size put → Shows left now (slots_before words now)
  pub either : n + 1 ≡ count_of_steps now.size put → Shows left now (slots_before words now) ⊎ Shows left (next_block now out put) (slots_after words now out put)
  pub after : count_of_steps now.size put ≤ n → Shows left (next_block now out put) (slots_after words now out put)

-- a law: a crash during a change leaves the area before it or after it
abbrev pub ReplaceIsWhole : Type 0
ReplaceIsWhole = (words : List ℕ) (now : IndexBlock) (out : Option ℕ) (put : Option Label) (n : ℕ) (left : List ℕ) → IsChange words now out put
    → IsLeftAfter words (replace_steps words now out put) n left → IsCut words now out put n left

-- a law: after the last step no word is pending, and the words are those after the change, so another change may follow
abbrev pub ReplaceSettles : Type 0
ReplaceSettles = (words : List ℕ) (now : IndexBlock) (out : Option ℕ) (put : Option Label) → IsChange words now out put
    → after (settled words) (replace_steps words now out put) ≡ settled (words_after words now out put)

-- how many of `count` steps are made under a fuse; the fuse may allow more
abbrev pub steps_under : Option ℕ → ℕ → ℕ
steps_under None count = count
steps_under (Some n) count = n
