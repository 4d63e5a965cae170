-- One change of a label area: what is written, in which order. UEFI 2.10, section 13.19, requires that the block that isn't
-- current is written, with the next Seq; the order of the words within it is this project's rule.
use Rattle.std.specs.Prelude.{◌≡◌, ℕ, ◌+◌, ◌-◌, ◌*◌, ◌/◌, ◌%◌, ◌^◌, Bool, true, false, if◌then◌else◌, List, [], ◌∷◌, slice_index, slice_index_or, slice_set, Option, Some, None, is_some}
use Rattle.std.specs.Option.{option_map}
use Rattle.std.specs.List.{range_with_len}
use Rattle.nvd_words.specs.Ring.{successor_of}
use Rattle.label_codec.specs.declared.label.Label.{Label}
use Rattle.label_codec.specs.Label.{spelling_of as label_spelling}
use Rattle.label_index.specs.declared.index.IndexBlock.{IndexBlock}
use Rattle.label_index.specs.declared.index.Side.{Side}
use Rattle.label_index.specs.declared.index.Side.TheVariants as side
use Rattle.label_index.specs.Index.{place_of}
use Rattle.label_index.specs.Spelling.{spelling_of as block_spelling}
use Rattle.cut_words.specs.Words.{Step}
use Rattle.cut_words.specs.Groups.{guarded}
use Rattle.cut_words.specs.WordBytes.{words_in, put_at}
use Rattle.label_area.specs.Area.{SlotState}

-- the other side
abbrev pub opposite : Side → Side
opposite side.Zero = side.One
opposite side.One = side.Zero

-- ---- steps

-- the word of a block with Seq, at offset 16
abbrev pub guard_of : ℕ → Side → ℕ
guard_of size s = place_of size s / 8 + 2

-- the other words of a block
abbrev pub guarded_by : ℕ → Side → List ℕ
guarded_by size s = place_of size s / 8 ∷ (place_of size s / 8 + 1) ∷ range_with_len (place_of size s / 8 + 3) (size / 8 - 3)

-- the words of a label's slot
abbrev pub words_of_slot : ℕ → Option ℕ → List ℕ
words_of_slot size None = []
words_of_slot size (Some slot) = range_with_len (2 * size / 8 + 32 * slot) 32

-- the word at offset 16 of a final block, but with Seq 0; Seq is its high half
abbrev pub closed_word : ℕ → ℕ
closed_word word = word % 2 ^ 32

-- the steps of a change, from the final words: the label in its slot, if there is one, and then the block of a side
abbrev pub change_steps : List ℕ → ℕ → Side → Option ℕ → List Step
change_steps final size s slot = guarded final (words_of_slot size slot) (guard_of size s) (closed_word (slice_index final (guard_of size s))) (guarded_by size s)

-- an index block alone
abbrev pub block_steps : List ℕ → ℕ → Side → List Step
block_steps final size s = change_steps final size s None

-- ---- what is written

-- the slot of the label to put, which the label names
abbrev pub slot_of_put : Option Label → Option ℕ
slot_of_put put = option_map (λ l. l.slot) put

-- Free with a slot taken, and with one freed
abbrev pub taken : Option ℕ → List Bool → List Bool
taken None free = free
taken (Some slot) free = slice_set free slot false

abbrev pub given : Option ℕ → List Bool → List Bool
given None free = free
given (Some out) free = slice_set free out true

-- the block of the other side, with the next Seq and the new Free
abbrev pub next_block : IndexBlock → Option ℕ → Option Label → IndexBlock
next_block now out put = record { side = opposite now.side; seq = successor_of now.seq; size = now.size; slots = now.slots; free = given out (taken (slot_of_put put) now.free) }

-- an area's words with a label in its slot, and with a block on its side
abbrev pub with_label : ℕ → Option Label → List ℕ → List ℕ
with_label size None words = words
with_label size (Some label) words = put_at words (2 * size / 8 + 32 * label.slot) (words_in (label_spelling label))

abbrev pub with_block : IndexBlock → List ℕ → List ℕ
with_block block words = put_at words (place_of block.size block.side / 8) (words_in (block_spelling block))

-- the words after a change that frees a slot and puts a label into its slot
abbrev pub words_after : List ℕ → IndexBlock → Option ℕ → Option Label → List ℕ
words_after words now out put = with_block (next_block now out put) (with_label now.size put words)

-- the steps of one change
abbrev pub replace_steps : List ℕ → IndexBlock → Option ℕ → Option Label → List Step
replace_steps words now out put = change_steps (words_after words now out put) now.size (opposite now.side) (slot_of_put put)

-- the number of steps: 64 for a label, and 66 for a block of 256 bytes
abbrev pub count_of_steps : ℕ → Option Label → ℕ
count_of_steps size put = (if is_some put then 64 else 0) + (2 * (size / 8) + 2)

-- ---- the slots after

-- slots with a label in its slot, and with one freed
abbrev pub with_put : Option Label → List SlotState → List SlotState
with_put None slots = slots
with_put (Some label) slots = slice_set slots label.slot (Some (Some label))

abbrev pub without : Option ℕ → List SlotState → List SlotState
without None slots = slots
without (Some out) slots = slice_set slots out None

-- ---- conditions

-- the slot of the label to put is free
abbrev pub IsFreeSlot : List Bool → Option ℕ → Type 0
IsFreeSlot free slot = (k : ℕ) → slot ≡ Some k → slice_index_or free k false ≡ true
