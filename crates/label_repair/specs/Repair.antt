-- A damaged index block that is written again from the other one: this project's rule.
use Rattle.std.specs.Prelude.{ℕ, ◌-◌, ◌==◌, if◌then◌else◌, List, Option, Some, None, Result, Ok, Err}
use Rattle.cut_words.specs.WordBytes.{bytes_of}
use Rattle.label_index.specs.declared.index.IndexBlock.{IndexBlock}
use Rattle.label_index.specs.declared.index.IndexFault.{IndexFault}
use Rattle.label_index.specs.declared.index.IndexFault.TheVariants.{Sequence}
use Rattle.label_index.specs.declared.index.Side.TheVariants as side
use Rattle.label_index.specs.Index.{index_reading}
use Rattle.label_area.specs.Change.{opposite, with_block}
use Rattle.label_repair.specs.declared.repair.IndexRepair.{IndexRepair}

-- the number before one on the ring 1, 2, 3, 1
abbrev pub predecessor_of : ℕ → ℕ
predecessor_of seq = if seq == 1 then 3 else seq - 1

-- the block of the other side, as it was before the current one: the same slots are free
abbrev pub older_block : IndexBlock → IndexBlock
older_block now = record { side = opposite now.side; seq = predecessor_of now.seq; size = now.size; slots = now.slots; free = now.free }

-- What a repair writes beside a valid block, if the other one is refused. A closed block (Sequence) is left: a change closes it
-- before it writes it.
abbrev pub repair_beside : IndexBlock → IndexFault → Option IndexRepair
repair_beside now Sequence = None
repair_beside now fault = Some (record { block = older_block now; fault = fault })

abbrev pub repair_by : Result IndexBlock IndexFault → Result IndexBlock IndexFault → Option IndexRepair
repair_by (Ok now) (Err fault) = repair_beside now fault
repair_by (Err fault) (Ok now) = repair_beside now fault
repair_by a b = None

-- the repair of an area, by its bytes
abbrev pub repair_in : List ℕ → Option IndexRepair
repair_in area = repair_by (index_reading area side.Zero) (index_reading area side.One)

-- an area's words after it
abbrev pub words_with : Option IndexRepair → List ℕ → List ℕ
words_with None words = words
words_with (Some repair) words = with_block repair.block words

abbrev pub repaired_words : List ℕ → List ℕ
repaired_words words = words_with (repair_in (bytes_of words)) words
