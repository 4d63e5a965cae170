-- The content of an image set, or its first fault: this project's rules.
use Rattle.std.specs.Prelude.{◌≡◌, ◌≢◌, ℕ, ◌+◌, nat_lt, Bool, true, not, List, [], ◌∷◌, length, map, sum, slice_index_or, Option, Some, None, Result, Ok, Err}
use Rattle.std.specs.Option.{option_map}
use Rattle.std.specs.Result.{result_map_both}
use Rattle.std.specs.List.{range_with_len}
use Rattle.nvd_words.specs.Checks.{first_fault, fault_if, value_unless}
use Rattle.nvd_media.specs.declared.object.Object.{Object}
use Rattle.nvd_media.specs.declared.object.Object.TheVariants as object
use Rattle.nvd_media.specs.Images.{Images, bytes_of}
use Rattle.cut_words.specs.Words.{Words}
use Rattle.cut_words.specs.WordBytes as words
use Rattle.nfit_reader.specs.declared.table.Nfit.{Nfit}
use Rattle.nfit_reader.specs.declared.table.Region.{Region}
use Rattle.nfit_reader.specs.declared.table.Mapping.{Mapping}
use Rattle.nfit_reader.specs.declared.table.NfitFault.{NfitFault}
use Rattle.nfit_reader.specs.Table.{nfit_reading}
use Rattle.label_index.specs.Area.{is_area_size}
use Rattle.image_set.specs.declared.fault.LoadFault.{LoadFault}
use Rattle.image_set.specs.declared.fault.LoadFault.TheVariants as fault
use Rattle.image_set.specs.declared.fault.Stop.{Stop}
use Rattle.image_set.specs.declared.fault.Stop.TheVariants as stop
use Rattle.image_set.specs.declared.loading.Loaded.{Loaded}
use Rattle.image_set.specs.Limits.{is_nfit_size, is_contents_size, is_bad_size}

-- ---- faults of one object

abbrev pub size_fault : (ℕ → Bool) → Object → List ℕ → Option LoadFault
size_fault is_size o bytes = fault_if (not (is_size (length bytes))) (fault.Size o (length bytes))

-- the fault of an object that must be there
abbrev pub needed_fault : (ℕ → Bool) → Object → Option (List ℕ) → Option LoadFault
needed_fault is_size o None = Some (fault.Missing o)
needed_fault is_size o (Some bytes) = size_fault is_size o bytes

-- the fault of an object that may be absent
abbrev pub optional_fault : (ℕ → Bool) → Object → Option (List ℕ) → Option LoadFault
optional_fault is_size o None = None
optional_fault is_size o (Some bytes) = size_fault is_size o bytes

-- ---- the first fault, in the order of the objects

-- of the mark, whose length is ignored, and the firmware's table
unfoldable pub table_fault : Images → Option LoadFault
table_fault set = first_fault (
    needed_fault (λ _. true) object.Mark (set object.Mark)
    ∷ needed_fault is_nfit_size object.Nfit (set object.Nfit)
    ∷ [])

-- of one module, after `before` bytes of the contents before it
unfoldable pub module_fault : Images → ℕ → ℕ → Option LoadFault
module_fault set before m = first_fault (
    optional_fault is_area_size (object.Labels m) (set (object.Labels m))
    ∷ needed_fault (is_contents_size before) (object.Contents m) (set (object.Contents m))
    ∷ optional_fault is_bad_size (object.BadRanges m) (set (object.BadRanges m))
    ∷ [])

-- the size of the contents of all modules before one, in bytes
abbrev pub size_before : Images → ℕ → ℕ
size_before set m = sum (map (λ k. length (bytes_of set (object.Contents k))) (range_with_len 0 m))

-- of `count` modules
unfoldable pub modules_fault : Images → ℕ → Option LoadFault
modules_fault set count = first_fault (map (λ m. module_fault set (size_before set m) m) (range_with_len 0 count))

-- a mapping passes the end of its module's contents
unfoldable pub mapping_fault : Images → Mapping → Option LoadFault
mapping_fault set m =
    fault_if (nat_lt (length (bytes_of set (object.Contents m.«module»))) (m.start + m.size))
    (fault.Size (object.Contents m.«module») (length (bytes_of set (object.Contents m.«module»))))

-- of all mappings, region by region, in the order of the table
unfoldable pub mappings_fault : Images → List Region → Option LoadFault
mappings_fault set regions = first_fault (map (λ region. first_fault (map (mapping_fault set) region.mappings)) regions)

-- ---- the whole

-- an image set as the bytes of its objects, indexed by module
pub record ImageSet : Type 0 where
  pub nfit : Nfit
  pub nfit_bytes : List ℕ
  pub labels : List (Option (List ℕ))
  pub contents : List (List ℕ)
  pub bad : List (Option (List ℕ))

-- the objects of a table's modules
unfoldable pub image_set_of : Images → Nfit → ImageSet
image_set_of set nfit = record {
  nfit = nfit;
  nfit_bytes = bytes_of set object.Nfit;
  labels = map (λ m. set (object.Labels m)) (range_with_len 0 (length nfit.modules));
  contents = map (λ m. bytes_of set (object.Contents m)) (range_with_len 0 (length nfit.modules));
  bad = map (λ m. set (object.BadRanges m)) (range_with_len 0 (length nfit.modules));
}

abbrev pub with_table : Images → Result Nfit NfitFault → Result ImageSet LoadFault
with_table set (Err f) = Err (fault.Nfit f)
with_table set (Ok nfit) =
    value_unless (image_set_of set nfit) (first_fault (
    modules_fault set (length nfit.modules)
    ∷ mappings_fault set nfit.regions
    ∷ []))

abbrev pub unless_fault : Images → Option LoadFault → Result ImageSet LoadFault
unless_fault set (Some f) = Err f
unless_fault set None = with_table set (nfit_reading (bytes_of set object.Nfit))

-- the content of an image set, or its first fault
unfoldable pub loading : Images → Result ImageSet LoadFault
loading set = unless_fault set (table_fault set)

-- ---- the loaded set

-- the bytes of the kept values
abbrev pub bytes_kept : Words → List ℕ
bytes_kept w = words.bytes_of w.kept

-- the loaded set, as bytes
unfoldable pub image_set_in : Loaded → ImageSet
image_set_in loaded = record {
  nfit = loaded.nfit;
  nfit_bytes = loaded.nfit_bytes;
  labels = map (option_map bytes_kept) loaded.labels;
  contents = map bytes_kept loaded.contents;
  bad = loaded.bad;
}

-- why reading stopped
abbrev pub fault_of : Stop → LoadFault
fault_of stop.ReadFault = fault.ReadFault
fault_of stop.OutOfMemory = fault.OutOfMemory

-- a call returned this, unless reading failed or memory ran out
abbrev pub AnswersRead : {A : Type 0} → Result A LoadFault → Result A LoadFault → Type 0
AnswersRead result answer = result ≢ Err fault.ReadFault → result ≢ Err fault.OutOfMemory → result ≡ answer

-- the loaded set is the source's, or the fault is its first
abbrev pub Loads : Result Loaded LoadFault → Images → Type 0
Loads result set = AnswersRead (result_map_both image_set_in (λ fault. fault) result) (loading set)

-- ---- one label area

-- the bytes of a module's label area; none if the table doesn't name the module, or it has no area
abbrev pub area_of : ImageSet → ℕ → Option (List ℕ)
area_of set m = slice_index_or set.labels m None
