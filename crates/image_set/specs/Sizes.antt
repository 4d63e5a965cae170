-- The sizes of a set's objects, in bytes, and the fault of a mapping by them.
use Rattle.std.specs.Prelude.{◌≡◌, ℕ, ◌+◌, ◌%◌, ◌<◌, ◌≤◌, nat_lt, List, length, map, sum, slice_index, Option, Some}
use Rattle.std.specs.Option.{option_map}
use Rattle.std.specs.List.{All, range_with_len}
use Rattle.nvd_words.specs.Checks.{first_fault, fault_if}
use Rattle.nvd_media.specs.declared.object.Object.{Object}
use Rattle.nvd_media.specs.declared.object.Object.TheVariants as object
use Rattle.nvd_media.specs.Images.{Images, bytes_of}
use Rattle.nfit_reader.specs.declared.table.Mapping.{Mapping}
use Rattle.nfit_reader.specs.declared.table.Region.{Region}
use Rattle.label_index.specs.Area.{IsAreaSize}
use Rattle.image_set.specs.Limits.{most_contents}
use Rattle.image_set.specs.declared.fault.LoadFault.{LoadFault}
use Rattle.image_set.specs.declared.fault.LoadFault.TheVariants as fault
use Rattle.image_set.specs.declared.sizes.Sizes.{Sizes}

-- the sizes of a module's objects in a set
abbrev pub sizes_of : Images → ℕ → Sizes
sizes_of set m = record {
  labels = option_map length (set (object.Labels m));
  contents = length (bytes_of set (object.Contents m));
  bad = option_map length (set (object.BadRanges m));
}

-- the sizes are those of the first modules
abbrev pub AreSizesOf : Images → List Sizes → Type 0
AreSizesOf set sizes = sizes ≡ map (sizes_of set) (range_with_len 0 (length sizes))

-- the size of a module's contents is a positive multiple of 4,096 bytes
pub record IsContentsSize (bytes : ℕ) : Type 0 where
  pub some : 0 < bytes
  pub multiple : bytes % 4096 ≡ 0

-- the sizes of a module's objects are within their limits
pub record IsSized (s : Sizes) : Type 0 where
  pub labels : (bytes : ℕ) → s.labels ≡ Some bytes → IsAreaSize bytes
  pub some : 0 < s.contents
  pub multiple : s.contents % 4096 ≡ 0
  pub ranges : (bytes : ℕ) → s.bad ≡ Some bytes → bytes % 16 ≡ 0
  pub few : (bytes : ℕ) → s.bad ≡ Some bytes → bytes ≤ 65536

abbrev pub contents_of : List Sizes → List ℕ
contents_of sizes = map (λ s. s.contents) sizes

-- all of them are, and so is their sum
pub record AreSized (sizes : List Sizes) : Type 0 where
  pub each : All IsSized sizes
  pub total : sum (contents_of sizes) ≤ most_contents

-- a mapping passes the end of its module's contents
unfoldable pub mapping_fault_by : List ℕ → Mapping → Option LoadFault
mapping_fault_by sizes m = fault_if (nat_lt (slice_index sizes m.«module») (m.start + m.size)) (fault.Size (object.Contents m.«module») (slice_index sizes m.«module»))

abbrev pub region_fault_by : List ℕ → List Mapping → Option LoadFault
region_fault_by sizes mappings = first_fault (map (mapping_fault_by sizes) mappings)

abbrev pub mappings_fault_by : List ℕ → List Region → Option LoadFault
mappings_fault_by sizes regions = first_fault (map (λ region. region_fault_by sizes region.mappings) regions)

-- a fault of a size
abbrev pub IsSizeFault : LoadFault → Type 0
IsSizeFault f = (o : Object) × (bytes : ℕ) × (f ≡ fault.Size o bytes)
