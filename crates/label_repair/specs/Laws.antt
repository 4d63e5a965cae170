-- What a repair of an index block is worth: laws about the definitions of Repair.
use Rattle.std.specs.Prelude.{◌≡◌, ◌⊎◌, ℕ, ◌+◌, ◌*◌, ◌/◌, ◌<◌, ◌≤◌, List, length, slice_get, Some, None, Ok}
use Rattle.cut_words.specs.WordBytes.{bytes_of}
use Rattle.label_index.specs.Area.{IsAreaSize}
use Rattle.label_index.specs.Index.{place_of, index_reading}
use Rattle.label_area.specs.Area.{block_in, slots_in}
use Rattle.label_repair.specs.declared.repair.IndexRepair.{IndexRepair}
use Rattle.label_repair.specs.Repair.{repair_in, repaired_words}

-- a law: the side that a repair writes is read as the block that it says
abbrev pub RepairIsRead : Type 0
RepairIsRead = (words : List ℕ) (repair : IndexRepair) → IsAreaSize (8 * length words) → repair_in (bytes_of words) ≡ Some repair
    → index_reading (bytes_of (repaired_words words)) repair.block.side ≡ Ok repair.block

-- a law: an area shows the same current block and the same slots after a repair
abbrev pub RepairKeepsLabels : Type 0
RepairKeepsLabels = (words : List ℕ) → IsAreaSize (8 * length words)
    → (block_in (bytes_of (repaired_words words)) ≡ block_in (bytes_of words)) × (slots_in (bytes_of (repaired_words words)) ≡ slots_in (bytes_of words))

-- a law: after a repair there is nothing to repair
abbrev pub RepairIsOnce : Type 0
RepairIsOnce = (words : List ℕ) → IsAreaSize (8 * length words) → repair_in (bytes_of (repaired_words words)) ≡ None

-- a word lies outside the block that a repair writes
abbrev pub IsOutside : IndexRepair → ℕ → Type 0
IsOutside repair i = (i < place_of repair.block.size repair.block.side / 8) ⊎ (place_of repair.block.size repair.block.side / 8 + repair.block.size / 8 ≤ i)

-- a law: a repair changes no word outside the block that it writes, and not how many words there are
abbrev pub RepairStaysInside : Type 0
RepairStaysInside = (words : List ℕ) → IsAreaSize (8 * length words)
    → (length (repaired_words words) ≡ length words)
    × ((repair : IndexRepair) (i : ℕ) → repair_in (bytes_of words) ≡ Some repair → IsOutside repair i → slice_get (repaired_words words) i ≡ slice_get words i)
