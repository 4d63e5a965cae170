-- The command `labels`: a module's current index block and its labels.
use Rattle.std.specs.Prelude.{ℕ, ◌+◌, if◌then◌else◌, Bool, List, [], ◌∷◌, ◌++◌, Option, Some, None, Result, Ok, Err, codes, count_by}
use Rattle.std.specs.Int.{w64, to_be_bytes}
use Rattle.std.specs.Fmt.{decimal}
use Rattle.hex.specs.Hex.{encode_lower}
use Rattle.label_index.specs.declared.index.IndexBlock.{IndexBlock}
use Rattle.label_index.specs.declared.index.Side.{Side}
use Rattle.label_index.specs.declared.index.Side.TheVariants as side
use Rattle.label_codec.specs.declared.label.Label.{Label}
use Rattle.label_codec.specs.declared.label.LabelFault.{LabelFault}
use Rattle.label_codec.specs.Label.{label_reading}
use Rattle.label_codec.specs.Mode.{mode_of}
use Rattle.label_area.specs.declared.fault.AreaFault.{AreaFault}
use Rattle.label_area.specs.declared.fault.AreaFault.TheVariants.{Unsupported, NoIndex, AlreadyInitialised, PowerCut, OutOfMemory}
use Rattle.label_area.specs.Area.{block_in, slot_bytes}
use Rattle.image_set.specs.Load.{ImageSet, area_of}
use Rattle.shell_reports.specs.Outcome.{Outcome, image_fault, printed, joined, lf, no_text}
use Rattle.shell_reports.specs.Texts.{name_text, uuid_text, mode_text, label_fault_text}

abbrev pub side_number : Side → ℕ
side_number side.Zero = 0
side_number side.One = 1

-- index SIDE seq S slots N free F
abbrev pub index_line : IndexBlock → List ℕ
index_line block = joined (codes "index " ∷ decimal (side_number block.side) ∷ codes " seq " ∷ decimal block.seq
    ∷ codes " slots " ∷ decimal block.slots ∷ codes " free " ∷ decimal (count_by (λ free. free) block.free) ∷ lf ∷ [])

-- pos P of N dpa D size R flags F lba L
abbrev pub numbers_text : Label → List ℕ
numbers_text label = joined (codes " pos " ∷ decimal label.position ∷ codes " of " ∷ decimal label.count ∷ codes " dpa " ∷ decimal label.dpa
    ∷ codes " size " ∷ decimal label.raw ∷ codes " flags " ∷ decimal label.flags ∷ codes " lba " ∷ decimal label.lba ∷ [])

-- mode MODE cookie C, with sixteen digits
abbrev pub ending_text : Label → List ℕ
ending_text label = joined (codes " mode " ∷ mode_text (mode_of label.kind label.abstraction) ∷ codes " cookie " ∷ encode_lower (to_be_bytes w64 label.cookie) ∷ lf ∷ [])

-- label SLOT UUID NAME pos P of N dpa D size R flags F lba L mode MODE cookie C
abbrev pub label_line : ℕ → Label → List ℕ
label_line slot label =
    joined (joined (codes "label " ∷ decimal slot ∷ codes " " ∷ uuid_text label.uuid ∷ codes " " ∷ []) ∷ name_text label.name ∷ numbers_text label ∷ ending_text label ∷ [])

-- bad SLOT FAULT
abbrev pub bad_line : ℕ → LabelFault → List ℕ
bad_line slot fault = joined (codes "bad " ∷ decimal slot ∷ codes " " ∷ label_fault_text fault ∷ lf ∷ [])

-- the line of a decoded used slot
abbrev pub reading_line : ℕ → Result Label LabelFault → List ℕ
reading_line slot (Ok label) = label_line slot label
reading_line slot (Err fault) = bad_line slot fault

-- the line of a used slot of an area, for index blocks of this size
abbrev pub used_line : List ℕ → ℕ → ℕ → List ℕ
used_line area size slot = reading_line slot (label_reading (slot_bytes area size slot) slot)

-- the line of a slot: a free one has none
abbrev pub slot_line : List ℕ → ℕ → ℕ → Bool → List ℕ
slot_line area size slot free = if free then [] else used_line area size slot

-- the lines of the slots from one on, in ascending order
abbrev pub lines_from : List ℕ → ℕ → ℕ → List Bool → List ℕ
lines_from area size slot [] = []
lines_from area size slot (free ∷ others) = slot_line area size slot free ++ lines_from area size (slot + 1) others

-- the outcome for an area with a current block
abbrev pub block_outcome : List ℕ → IndexBlock → Outcome
block_outcome area block = printed (index_line block ++ lines_from area block.size 0 block.free)

-- why an area is refused: it has no current block, or `init` found one
abbrev pub area_fault_text : AreaFault → List ℕ
area_fault_text (Unsupported major minor) = codes "Unsupported " ++ (decimal major ++ (codes " " ++ decimal minor))
area_fault_text NoIndex = codes "NoIndex"
area_fault_text (AlreadyInitialised seq) = codes "AlreadyInitialised " ++ decimal seq
area_fault_text PowerCut = no_text
area_fault_text OutOfMemory = no_text

-- image labels M FAULT
abbrev pub fault_outcome : ℕ → AreaFault → Outcome
fault_outcome m fault = image_fault (codes "labels " ∷ decimal m ∷ codes " " ∷ area_fault_text fault ∷ lf ∷ [])

-- the outcome for an area, from its current block, or why there is none
abbrev pub found_outcome : ℕ → List ℕ → Result IndexBlock AreaFault → Outcome
found_outcome m area (Ok block) = block_outcome area block
found_outcome m area (Err fault) = fault_outcome m fault

abbrev pub area_outcome : ℕ → List ℕ → Outcome
area_outcome m area = found_outcome m area (block_in area)

-- the outcome for a module's label area; there is none if the table doesn't name the module, or it has no area
abbrev pub module_outcome : ℕ → Option (List ℕ) → Outcome
module_outcome m None = image_fault (codes "labels " ∷ decimal m ∷ codes " Missing" ∷ lf ∷ [])
module_outcome m (Some area) = area_outcome m area

-- the outcome of `labels M` on a loaded set, whose label areas have valid sizes
abbrev pub labels_outcome : ℕ → ImageSet → Outcome
labels_outcome m loaded = module_outcome m (area_of loaded m)
