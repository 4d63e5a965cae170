-- Finding a sector namespace some of whose labels are missing: UEFI 2.10, section 13.19 (EFI_NVDIMM_LABEL: Uuid, Dpa, RawSize), with this
-- project's rules.
use Rattle.std.specs.Prelude.{◌≡◌, ℕ, ◌+◌, ◌==◌, nat_lt, Bool, true, false, not, ◌&&◌, if◌then◌else◌, List, [], ◌∷◌, filter, find, Option, Some, None, Result, Ok, Err}
use Rattle.std.specs.List.{list_any}
use Rattle.std.specs.Str.{bytes_eq}
use Rattle.nfit_reader.specs.declared.table.Mapping.{Mapping}
use Rattle.label_set.specs.declared.placed.Placed.{Placed}
use Rattle.label_set.specs.declared.placed.SetStatus.{SetStatus}
use Rattle.label_set.specs.declared.placed.SetStatus.TheVariants.{Complete, Incomplete}
use Rattle.label_set.specs.declared.placed.Why.TheVariants.{Missing}
use Rattle.label_set.specs.Rules.{modules_of}
use Rattle.region_space.specs.declared.extent.Extent.{Extent}
use Rattle.region_space.specs.Space.{clash}
use Rattle.namespace_map.specs.declared.listed.Namespace.{Namespace}
use Rattle.namespace_map.specs.declared.refused.OpRefused.{OpRefused}
use Rattle.namespace_map.specs.declared.refused.OpRefused.TheVariants.{NoSuch, NotComplete, NotSector}
use Rattle.namespace_map.specs.Namespaces.{entry_with, namespace_of}
use Rattle.namespace_map.specs.Commands.{is_sector}
use Rattle.namespace_areas.specs.declared.found.Found.{Found}
use Rattle.namespace_areas.specs.Finding.{found_at, set_at}
use Rattle.label_rescue.specs.declared.rescued.RescueFound.{RescueFound}
use Rattle.label_rescue.specs.declared.taken.Place.{Place}

-- ---- which namespaces

-- the labels are complete, or the first rule that they break is that some are missing
abbrev pub is_rescuable : SetStatus → Bool
is_rescuable (Complete name pending) = true
is_rescuable (Incomplete (Missing number)) = true
is_rescuable status = false

-- ---- modules without a label

-- one of the extents is on a module
abbrev pub has_extent : List Extent → ℕ → Bool
has_extent extents number = list_any (λ e. e.«module» == number) extents

-- a number is inserted before the first that isn't below it
unfoldable pub inserted : ℕ → List ℕ → List ℕ
inserted n [] = n ∷ []
inserted n (k ∷ ks) = if nat_lt k n then k ∷ inserted n ks else n ∷ k ∷ ks

-- numbers in ascending order
unfoldable pub rising : List ℕ → List ℕ
rising [] = []
rising (n ∷ ns) = inserted n (rising ns)

-- the modules of a set that have none of the extents, in ascending order
abbrev pub missing_of : List Mapping → List Extent → List ℕ
missing_of set extents = rising (filter (λ number. not (has_extent extents number)) (modules_of set))

-- ---- the places of the missing labels

-- what a label of the namespace reserves on the module of a mapping, by the place of the whole namespace
abbrev pub extent_on : List ℕ → Found → Mapping → Extent
extent_on uuid found m = record { owner = uuid; «module» = m.«module»; start = m.start + found.offset; length = found.raw }

-- as the code has it
abbrev pub extent_in : Place → Extent
extent_in p = record { owner = p.owner; «module» = p.«module»; start = p.start; length = p.length }

-- a label of another UUID reserves some of these bytes
abbrev pub is_taken : List Namespace → Extent → Bool
is_taken namespaces e = list_any (λ n. list_any (clash e) n.extents) namespaces

-- the label of a mapping's module is missing, and its place is taken
abbrev pub is_taken_on : List Namespace → Namespace → Found → Mapping → Bool
is_taken_on namespaces n found m = not (has_extent n.extents m.«module») && is_taken namespaces (extent_on n.uuid found m)

-- ---- the namespace of a UUID, among all that labels name

-- in its region's set, by its place
abbrev pub rescued_with : List (List Mapping) → List Namespace → Namespace → Found → Result RescueFound OpRefused
rescued_with sets namespaces n found =
    if list_any (is_taken_on namespaces n found) (set_at sets found.region) then Err NotComplete
    else Ok (record { found = found; missing = missing_of (set_at sets found.region) n.extents })

-- by its first label; a namespace that can be rescued has a label and a region
abbrev pub rescued_by : List (List Mapping) → List Namespace → Namespace → Option ℕ → List Extent → Result RescueFound OpRefused
rescued_by sets namespaces n (Some region) (e ∷ extents) = rescued_with sets namespaces n (found_at sets n.mode region e)
rescued_by sets namespaces n region extents = Err NotComplete

abbrev pub rescued_one : List (List Mapping) → List Namespace → Option Namespace → Result RescueFound OpRefused
rescued_one sets namespaces None = Err NoSuch
rescued_one sets namespaces (Some n) =
    if not (is_rescuable n.status) then Err NotComplete
    else if not (is_sector n.mode) then Err NotSector
    else rescued_by sets namespaces n n.region n.extents

abbrev pub namespace_at : List Namespace → List ℕ → Option Namespace
namespace_at namespaces uuid = find (λ n. bytes_eq n.uuid uuid) namespaces

abbrev pub rescued_of : List (List Mapping) → List Namespace → List ℕ → Result RescueFound OpRefused
rescued_of sets namespaces uuid = rescued_one sets namespaces (namespace_at namespaces uuid)

-- ---- what a caller has

-- labels make the namespace
pub record IsOfLabels (sets : List (List Mapping)) (n : Namespace) : Type 0 where
  pub first : Placed
  pub rest : List Placed
  pub claims : ℕ
  pub is : n ≡ namespace_of (entry_with sets (first ∷ rest) first) claims
