-- A whole label area: UEFI 2.10, section 13.19 (which index block is current, LabelOff, the label slots).
use Rattle.std.specs.Prelude.{ℕ, ◌+◌, ◌*◌, Bool, if◌then◌else◌, List, take, drop, map, Option, Some, None, unwrap_or, Result, Ok, Err}
use Rattle.std.specs.Result.{result_ok}
use Rattle.std.specs.List.{enumerate_from}
use Rattle.label_index.specs.declared.index.IndexBlock.{IndexBlock}
use Rattle.label_index.specs.declared.index.IndexFault.{IndexFault}
use Rattle.label_index.specs.declared.index.IndexFault.TheVariants.{Version}
use Rattle.label_index.specs.declared.index.Side.{Side}
use Rattle.label_index.specs.declared.index.Side.TheVariants as side
use Rattle.label_index.specs.Index.{index_reading, current_of}
use Rattle.label_codec.specs.declared.label.Label.{Label}
use Rattle.label_codec.specs.Label.{label_reading}
use Rattle.label_area.specs.declared.fault.AreaFault.{AreaFault}
use Rattle.label_area.specs.declared.fault.AreaFault.TheVariants.{Unsupported, NoIndex}

-- the version for which a side was refused
abbrev pub refused_version : Result IndexBlock IndexFault → Option AreaFault
refused_version (Err (Version major minor)) = Some (Unsupported major minor)
refused_version other = None

-- why an area without a valid side is refused: the first version fault, if there is one
abbrev pub no_side : Result IndexBlock IndexFault → Result IndexBlock IndexFault → AreaFault
no_side a b = unwrap_or (refused_version a) (unwrap_or (refused_version b) NoIndex)

-- the block of the current side
abbrev pub current_block : Option Side → Result IndexBlock IndexFault → Result IndexBlock IndexFault → Result IndexBlock AreaFault
current_block (Some side.Zero) (Ok block) b = Ok block
current_block (Some side.One) a (Ok block) = Ok block
current_block s a b = Err (no_side a b)

-- the current block of an area, or why there is none
abbrev pub block_in : List ℕ → Result IndexBlock AreaFault
block_in area = let a = index_reading area side.Zero in let b = index_reading area side.One in current_block (current_of a b) a b

-- the bytes of a slot; the slots follow both index blocks, of `size` bytes each, and have 256 bytes each
abbrev pub slot_bytes : List ℕ → ℕ → ℕ → List ℕ
slot_bytes area size slot = take 256 (drop (2 * size + 256 * slot) area)

-- ---- slots

-- a slot: free, or used, then with its label, or without a valid one
abbrev pub SlotState : Type 0
SlotState = Option (Option Label)

-- a slot, from its number and its bit of Free; the label in it must have that number
abbrev pub slot_at : List ℕ → ℕ → ℕ × Bool → SlotState
slot_at area size slot = if slot.1 then None else Some (result_ok (label_reading (slot_bytes area size slot.0) slot.0))

-- the slots of an area by an index block
abbrev pub slots_by : List ℕ → IndexBlock → List SlotState
slots_by area block = map (slot_at area block.size) (enumerate_from 0 block.free)

abbrev pub slots_with : List ℕ → Result IndexBlock AreaFault → Result (List SlotState) AreaFault
slots_with area (Ok block) = Ok (slots_by area block)
slots_with area (Err fault) = Err fault

-- the slots of an area, by its current block, or why it is refused
abbrev pub slots_in : List ℕ → Result (List SlotState) AreaFault
slots_in area = slots_with area (block_in area)

-- the label of a slot, if it has a valid one
abbrev pub label_in : SlotState → Option Label
label_in slot = unwrap_or slot None

abbrev pub labels_in : List SlotState → List (Option Label)
labels_in slots = map label_in slots
