-- The faults of a module's objects by their lengths, in bytes.
use Rattle.std.specs.Prelude.{◌≡◌, ℕ, ◌+◌, ◌==◌, nat_lt, Bool, not, ◌&&◌, List, [], ◌∷◌, length, map, unwrap_or, Option, Some, None}
use Rattle.std.specs.Option.{option_map}
use Rattle.std.specs.List.{range_with_len}
use Rattle.nvd_words.specs.Checks.{first_fault, fault_if}
use Rattle.nvd_media.specs.declared.object.Object.{Object}
use Rattle.nvd_media.specs.declared.object.Object.TheVariants as object
use Rattle.nvd_media.specs.Images.{Images}
use Rattle.nfit_reader.specs.declared.table.Region.{Region}
use Rattle.nfit_reader.specs.declared.table.Mapping.{Mapping}
use Rattle.label_index.specs.Area.{is_area_size}
use Rattle.image_set.specs.declared.fault.LoadFault.{LoadFault}
use Rattle.image_set.specs.declared.fault.LoadFault.TheVariants as fault
use Rattle.image_set.specs.Limits.{is_contents_size, is_bad_size}
use Rattle.set_objects.specs.declared.found.Found.{Found}
use Rattle.set_objects.specs.Objects.{faults_in}

-- the lengths of a module's objects in a set
abbrev pub found_in : Images → ℕ → Found
found_in set m = record {
  labels = option_map length (set (object.Labels m));
  contents = option_map length (set (object.Contents m));
  bad = option_map length (set (object.BadRanges m));
}

-- the lengths are those of the first modules
abbrev pub AreFoundIn : List Found → Images → Type 0
AreFoundIn found set = found ≡ map (found_in set) (range_with_len 0 (length found))

-- the lengths of the contents, 0 if they are missing
abbrev pub contents_of : List Found → List ℕ
contents_of found = map (λ f. unwrap_or f.contents 0) found

-- ---- faults

-- of an object that may be absent
abbrev pub length_fault : (ℕ → Bool) → Object → Option ℕ → Option LoadFault
length_fault is_size o None = None
length_fault is_size o (Some bytes) = fault_if (not (is_size bytes)) (fault.Size o bytes)

-- a mapping on the module passes the end of contents of this length
abbrev pub passes_end : ℕ → ℕ → Mapping → Bool
passes_end m bytes mapping = (mapping.«module» == m) && nat_lt bytes (mapping.start + mapping.size)

abbrev pub end_fault : ℕ → ℕ → Mapping → Option LoadFault
end_fault m bytes mapping = fault_if (passes_end m bytes mapping) (fault.Size (object.Contents m) bytes)

-- of the first of a region's mappings that does so
abbrev pub region_end_fault : ℕ → ℕ → List Mapping → Option LoadFault
region_end_fault m bytes mappings = first_fault (map (end_fault m bytes) mappings)

-- of the first of all mappings that does so
abbrev pub regions_end_fault : ℕ → ℕ → List Region → Option LoadFault
regions_end_fault m bytes regions = first_fault (map (λ region. region_end_fault m bytes region.mappings) regions)

-- of contents, after `before` bytes of the contents before them
abbrev pub contents_length_fault : List Region → ℕ → ℕ → Option ℕ → Option LoadFault
contents_length_fault regions m before None = Some (fault.Missing (object.Contents m))
contents_length_fault regions m before (Some bytes) = first_fault (
    fault_if (not (is_contents_size before bytes)) (fault.Size (object.Contents m) bytes)
    ∷ regions_end_fault m bytes regions
    ∷ [])

-- of a module's objects
abbrev pub found_faults : List Region → ℕ → ℕ → Found → List LoadFault
found_faults regions m before found = faults_in (
    length_fault is_area_size (object.Labels m) found.labels
    ∷ contents_length_fault regions m before found.contents
    ∷ length_fault is_bad_size (object.BadRanges m) found.bad
    ∷ [])
