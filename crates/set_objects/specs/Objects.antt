-- The firmware's table of an image set, and every fault of its modules' objects: this project's rules.
use Rattle.std.specs.Prelude.{◌==◌, ℕ, Bool, if◌then◌else◌, List, [], ◌∷◌, length, map, Option, Some, None, Result, Err}
use Rattle.std.specs.Result.{result_map_both}
use Rattle.std.specs.List.{flat_map, range_with_len}
use Rattle.nvd_words.specs.Checks.{first_fault}
use Rattle.nvd_media.specs.declared.object.Object.TheVariants as object
use Rattle.nvd_media.specs.Images.{Images, bytes_of}
use Rattle.nfit_reader.specs.declared.table.Nfit.{Nfit}
use Rattle.nfit_reader.specs.declared.table.Region.{Region}
use Rattle.nfit_reader.specs.declared.table.Mapping.{Mapping}
use Rattle.nfit_reader.specs.Table.{nfit_reading}
use Rattle.label_index.specs.Area.{is_area_size}
use Rattle.image_set.specs.declared.fault.LoadFault.{LoadFault}
use Rattle.image_set.specs.declared.fault.LoadFault.TheVariants as fault
use Rattle.image_set.specs.Limits.{is_contents_size, is_bad_size}
use Rattle.image_set.specs.Load.{needed_fault, optional_fault, mapping_fault, size_before, table_fault}

-- ---- the firmware's table

abbrev pub table_unless : Images → Option LoadFault → Result Nfit LoadFault
table_unless set (Some f) = Err f
table_unless set None = result_map_both (λ nfit. nfit) fault.Nfit (nfit_reading (bytes_of set object.Nfit))

-- the firmware's table, or why it can't be read: the mark or the table is missing, the table is too large, or it is refused
unfoldable pub table_reading : Images → Result Nfit LoadFault
table_reading set = table_unless set (table_fault set)

-- ---- the faults of one module's objects: at most one of each object

-- of the label area
abbrev pub labels_fault : Images → ℕ → Option LoadFault
labels_fault set m = optional_fault is_area_size (object.Labels m) (set (object.Labels m))

-- of a mapping on the module that passes the end of its contents
abbrev pub mapping_fault_on : Images → ℕ → Mapping → Option LoadFault
mapping_fault_on set m mapping = if mapping.«module» == m then mapping_fault set mapping else None

-- of the first of all mappings that does so
unfoldable pub mappings_fault_on : Images → List Region → ℕ → Option LoadFault
mappings_fault_on set regions m = first_fault (map (λ region. first_fault (map (mapping_fault_on set m) region.mappings)) regions)

-- of the contents, after those of the modules before: their own, or else that of a mapping
unfoldable pub contents_fault : Images → List Region → ℕ → Option LoadFault
contents_fault set regions m = first_fault (
    needed_fault (is_contents_size (size_before set m)) (object.Contents m) (set (object.Contents m))
    ∷ mappings_fault_on set regions m
    ∷ [])

-- of the list of bad ranges
abbrev pub bad_fault : Images → ℕ → Option LoadFault
bad_fault set m = optional_fault is_bad_size (object.BadRanges m) (set (object.BadRanges m))

-- ---- all faults

-- the faults that there are
unfoldable pub faults_in : List (Option LoadFault) → List LoadFault
faults_in [] = []
faults_in (None ∷ faults) = faults_in faults
faults_in (Some f ∷ faults) = f ∷ faults_in faults

-- of one module's objects
unfoldable pub module_faults : Images → List Region → ℕ → List LoadFault
module_faults set regions m = faults_in (labels_fault set m ∷ contents_fault set regions m ∷ bad_fault set m ∷ [])

-- of all modules' objects, module by module
unfoldable pub object_faults : Images → Nfit → List LoadFault
object_faults set nfit = flat_map (module_faults set nfit.regions) (range_with_len 0 (length nfit.modules))

-- ---- the objects that have no fault of their own

-- an object, if its size is within its limits
abbrev pub if_sized : (ℕ → Bool) → Option (List ℕ) → Option (List ℕ)
if_sized is_size None = None
if_sized is_size (Some bytes) = if is_size (length bytes) then Some bytes else None

-- the bytes of a module's label area
abbrev pub labels_there : Images → ℕ → Option (List ℕ)
labels_there set m = if_sized is_area_size (set (object.Labels m))

-- the bytes of a module's list of bad ranges
abbrev pub bad_there : Images → ℕ → Option (List ℕ)
bad_there set m = if_sized is_bad_size (set (object.BadRanges m))
