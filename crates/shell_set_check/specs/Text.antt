-- The lines of `check` on a whole set, but for namespaces and arenas: each is a fault or a notice. This project's rules.
use Rattle.std.specs.Prelude.{ℕ, ◌+◌, ◌/◌, ◌==◌, Bool, true, if◌then◌else◌, ◌&&◌, List, [], ◌∷◌, ◌++◌, length, map, Option, Some, None, Result, Ok, Err, codes}
use Rattle.std.specs.Option.{option_map}
use Rattle.std.specs.Fmt.{decimal}
use Rattle.nfit_reader.specs.declared.table.Mapping.{Mapping}
use Rattle.nfit_reader.specs.declared.table.Region.{Region}
use Rattle.interleave.specs.declared.set.SetFault.{SetFault}
use Rattle.interleave.specs.Sets.{set_reading}
use Rattle.label_index.specs.declared.index.IndexBlock.{IndexBlock}
use Rattle.label_index.specs.declared.index.IndexFault.{IndexFault}
use Rattle.label_index.specs.declared.index.IndexFault.TheVariants as index
use Rattle.label_index.specs.declared.index.Side.TheVariants as side
use Rattle.label_index.specs.Index.{index_reading}
use Rattle.label_codec.specs.declared.label.Label.{Label}
use Rattle.label_codec.specs.declared.label.LabelFault.{LabelFault}
use Rattle.label_codec.specs.Label.{label_reading}
use Rattle.label_area.specs.declared.fault.AreaFault.{AreaFault}
use Rattle.label_area.specs.Area.{block_in, slot_bytes}
use Rattle.cut_words.specs.Words.{Words}
use Rattle.image_set.specs.declared.fault.LoadFault.{LoadFault}
use Rattle.image_set.specs.Load.{bytes_kept}
use Rattle.namespace_ops.specs.declared.registry.OpenFault.TheVariants.{Set}
use Rattle.shell_reports.specs.List.{open_fault_text}
use Rattle.shell_reports.specs.LoadFaults.{load_fault_text}
use Rattle.shell_reports.specs.Outcome.{joined, lf, no_text}
use Rattle.shell_reports.specs.Texts.{label_fault_text}

-- fault WHAT
abbrev pub fault_line : List ℕ → List ℕ
fault_line what = joined (codes "fault " ∷ what ∷ lf ∷ [])

-- notice WHAT
abbrev pub notice_line : List ℕ → List ℕ
notice_line what = joined (codes "notice " ∷ what ∷ lf ∷ [])

-- ---- objects

abbrev pub object_lines : List LoadFault → List ℕ
object_lines [] = []
object_lines (fault ∷ faults) = fault_line (load_fault_text fault) ++ object_lines faults

-- ---- regions

-- the line of a region, if it isn't an interleave set
abbrev pub region_part : ℕ → Result (List Mapping) SetFault → List ℕ
region_part number (Ok set) = []
region_part number (Err fault) = fault_line (open_fault_text (Set number fault))

-- those of all regions from a number on
abbrev pub region_lines : ℕ → List Region → List ℕ
region_lines number [] = []
region_lines number (region ∷ regions) = region_part number (set_reading region) ++ region_lines (number + 1) regions

-- ---- one label area

abbrev pub index_fault_text : IndexFault → List ℕ
index_fault_text index.Signature = codes "Signature"
index_fault_text index.Sequence = codes "Sequence"
index_fault_text (index.Version major minor) = codes "Version " ++ (decimal major ++ (codes " " ++ decimal minor))
index_fault_text index.Offsets = codes "Offsets"
index_fault_text index.Slots = codes "Slots"
index_fault_text index.Checksum = codes "Checksum"
index_fault_text index.OutOfMemory = no_text

-- labels M index SIDE FAULT
abbrev pub side_text : ℕ → ℕ → IndexFault → List ℕ
side_text m s fault = codes "labels " ++ (decimal m ++ (codes " index " ++ (decimal s ++ (codes " " ++ index_fault_text fault))))

-- a block that is refused is a fault, unless it is closed: a change closes it before it is written
abbrev pub side_fault : ℕ → ℕ → IndexFault → List ℕ
side_fault m s index.Sequence = notice_line (side_text m s index.Sequence)
side_fault m s fault = fault_line (side_text m s fault)

abbrev pub side_part : ℕ → ℕ → Result IndexBlock IndexFault → List ℕ
side_part m s (Ok block) = []
side_part m s (Err fault) = side_fault m s fault

-- both blocks of an area; one that has no signature on either side is blank
abbrev pub sides_part : ℕ → Result IndexBlock IndexFault → Result IndexBlock IndexFault → List ℕ
sides_part m (Err index.Signature) (Err index.Signature) = notice_line (joined (codes "labels " ∷ decimal m ∷ codes " NoIndex" ∷ []))
sides_part m a b = side_part m 0 a ++ side_part m 1 b

-- labels M slot K FAULT
abbrev pub slot_text : ℕ → ℕ → LabelFault → List ℕ
slot_text m slot fault = joined (codes "labels " ∷ decimal m ∷ codes " slot " ∷ decimal slot ∷ codes " " ∷ label_fault_text fault ∷ [])

-- a used slot, as it is decoded
abbrev pub slot_part : ℕ → ℕ → Result Label LabelFault → List ℕ
slot_part m slot (Ok label) = []
slot_part m slot (Err fault) = fault_line (slot_text m slot fault)

-- the used slots of an area from one on, for index blocks of this size
abbrev pub slot_lines : ℕ → List ℕ → ℕ → ℕ → List Bool → List ℕ
slot_lines m area size slot [] = []
slot_lines m area size slot (free ∷ others) =
    (if free then [] else slot_part m slot (label_reading (slot_bytes area size slot) slot)) ++ slot_lines m area size (slot + 1) others

-- the slots by the current block; an area without one has none
abbrev pub slots_part : ℕ → List ℕ → Result IndexBlock AreaFault → List ℕ
slots_part m area (Ok block) = slot_lines m area block.size 0 block.free
slots_part m area (Err fault) = []

abbrev pub area_part : ℕ → List ℕ → List ℕ
area_part m area = sides_part m (index_reading area side.Zero) (index_reading area side.One) ++ slots_part m area (block_in area)

-- ---- all label areas, from that of a module on; a module may have none

abbrev pub area_part_of : ℕ → Option (List ℕ) → List ℕ
area_part_of m None = []
area_part_of m (Some area) = area_part m area

abbrev pub area_lines : ℕ → List (Option (List ℕ)) → List ℕ
area_lines m [] = []
area_lines m (area ∷ areas) = area_part_of m area ++ area_lines (m + 1) areas

-- the same, by their words
abbrev pub areas_lines : ℕ → List (Option Words) → List ℕ
areas_lines m labels = area_lines m (map (option_map bytes_kept) labels)

-- ---- bad ranges: how many records of 16 bytes a module has

-- badranges M N
abbrev pub record_text : ℕ → ℕ → List ℕ
record_text m count = codes "badranges " ++ (decimal m ++ (codes " " ++ decimal count))

abbrev pub record_part : ℕ → ℕ → List ℕ
record_part m count = if count == 0 then [] else notice_line (record_text m count)

abbrev pub bad_part : ℕ → Option (List ℕ) → List ℕ
bad_part m None = []
bad_part m (Some bytes) = record_part m (length bytes / 16)

abbrev pub bad_lines : ℕ → List (Option (List ℕ)) → List ℕ
bad_lines m [] = []
bad_lines m (bytes ∷ others) = bad_part m bytes ++ bad_lines (m + 1) others

-- ---- the count

-- how many lines are faults; only their lines begin with an f. A line may begin here.
abbrev pub faults_from : Bool → List ℕ → ℕ
faults_from begins [] = 0
faults_from begins (byte ∷ bytes) = (if begins && (byte == 102) then 1 else 0) + faults_from (byte == 10) bytes

abbrev pub faults_in : List ℕ → ℕ
faults_in text = faults_from true text
