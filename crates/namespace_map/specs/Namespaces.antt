-- The namespaces in the labels of all modules: one entry for each UUID that a label names. UEFI 2.10, section 13.19
-- (EFI_NVDIMM_LABEL: Uuid, Name, Flags, LbaSize, Dpa, RawSize, TypeGuid, AddressAbstractionGuid), with this project's rules.
use Rattle.std.specs.Prelude.{ℕ, Bool, not, if◌then◌else◌, List, [], ◌∷◌, map, filter, find, slice_get, Option, Some, None, unwrap_or}
use Rattle.std.specs.Option.{option_map}
use Rattle.std.specs.List.{list_any, flat_map, filter_map, enumerate_from}
use Rattle.std.specs.Str.{bytes_eq}
use Rattle.std.specs.Ordering.{is_lt, nat_cmp}
use Rattle.std.specs.Cmp.Lexicographic.{slice_cmp}
use Rattle.nfit_reader.specs.declared.table.Mapping.{Mapping}
use Rattle.label_codec.specs.declared.label.Label.{Label}
use Rattle.label_codec.specs.declared.mode.Mode.{Mode}
use Rattle.label_codec.specs.Mode.{mode_of}
use Rattle.label_codec.specs.Flags.{has_rolabel, without_updating}
use Rattle.label_set.specs.declared.placed.Placed.{Placed}
use Rattle.label_set.specs.declared.placed.SetStatus.{SetStatus}
use Rattle.label_set.specs.declared.placed.SetStatus.TheVariants.{Complete, Local, Incomplete}
use Rattle.label_set.specs.declared.placed.Why.TheVariants.{Outside}
use Rattle.label_set.specs.Rules.{module_of, is_local, is_updating, is_outside}
use Rattle.label_set.specs.Status.{status_of}
use Rattle.region_space.specs.declared.extent.Extent.{Extent}
use Rattle.namespace_map.specs.declared.listed.Namespace.{Namespace}

-- ---- the labels of all modules

-- the label in a module's slot, if there is one
abbrev pub placed_in : ℕ → ℕ × Option Label → Option Placed
placed_in number slot = option_map (λ l. record { «module» = number; slot = slot.0; label = l }) slot.1

-- the labels of a module, by slot; none if its area isn't read
abbrev pub placed_on : ℕ × Option (List (Option Label)) → List Placed
placed_on area = filter_map (placed_in area.0) (enumerate_from 0 (unwrap_or area.1 []))

-- the labels of areas indexed by module, ordered by module and slot
abbrev pub placed_of : List (Option (List (Option Label))) → List Placed
placed_of areas = flat_map placed_on (enumerate_from 0 areas)

-- ---- one label

abbrev pub uuid_of : Placed → List ℕ
uuid_of p = p.label.uuid

abbrev pub extent_of : Placed → Extent
extent_of p = record { owner = p.label.uuid; «module» = p.«module»; start = p.label.dpa; length = p.label.raw }

abbrev pub is_read_only : Placed → Bool
is_read_only p = has_rolabel p.label.flags

-- ---- an entry

-- one label's part of a namespace: its extent, and the fields that a change of the label keeps
pub record Part : Type 0 where
  pub extent : Extent
  pub align : ℕ
  pub spa_cookie : ℕ
  -- Flags without UPDATING
  pub flags : ℕ

pub record NamespaceEntry : Type 0 where
  pub uuid : List ℕ
  pub name : List ℕ
  pub region : Option ℕ
  pub mode : Mode
  pub lba : ℕ
  -- ordered by module and slot
  pub parts : List Part
  pub status : SetStatus
  -- the modules whose label has UPDATING, in ascending order
  pub updating : List ℕ
  -- the least module whose label has ROLABEL
  pub read_only : Option ℕ

abbrev pub part_of : Placed → Part
part_of p = record { extent = extent_of p; align = p.label.align; spa_cookie = p.label.spa_cookie; flags = without_updating p.label.flags }

-- ---- the entry of the labels of one UUID, which are ordered by module and slot; the first is passed separately

-- a label's extent lies entirely in its module's mapping
abbrev pub holds_label : Placed → List Mapping → Bool
holds_label p set = not (is_outside set p)

-- the first region whose mapping contains a label, with its set
abbrev pub region_of : List (List Mapping) → Placed → Option (ℕ × List Mapping)
region_of sets p = find (λ r. holds_label p r.1) (enumerate_from 0 sets)

-- the status of labels in the set of their region; without a region, whether one of them is local
abbrev pub status_in : Option (ℕ × List Mapping) → List Placed → Placed → SetStatus
status_in None labels first = if list_any is_local labels then Local else Incomplete (Outside first.«module»)
status_in (Some region) labels first = status_of region.1 labels

-- the name in a status, else the first label's
abbrev pub shown_name : SetStatus → Placed → List ℕ
shown_name (Complete name pending) first = name
shown_name status first = first.label.name

abbrev pub entry_with : List (List Mapping) → List Placed → Placed → NamespaceEntry
entry_with sets labels first =
    let region = region_of sets first in
    let status = status_in region labels first in
    record {
      uuid = uuid_of first;
      name = shown_name status first;
      region = option_map (λ r. r.0) region;
      mode = mode_of first.label.kind first.label.abstraction;
      lba = first.label.lba;
      parts = map part_of labels;
      status = status;
      updating = map module_of (filter is_updating labels);
      read_only = option_map module_of (find is_read_only labels);
    }

-- the labels of a UUID
abbrev pub labels_with : List ℕ → List Placed → List Placed
labels_with uuid labels = filter (λ p. bytes_eq (uuid_of p) uuid) labels

-- the entry of a UUID, if a label names it; the labels are ordered by module and slot
abbrev pub entry_at : List (List Mapping) → List Placed → List ℕ → Option NamespaceEntry
entry_at sets labels uuid = let own = labels_with uuid labels in option_map (entry_with sets own) (slice_get own 0)

-- ---- the map from UUIDs to entries, as a list of entries that ascend by UUID

abbrev pub uuid_lt : List ℕ → List ℕ → Bool
uuid_lt a b = is_lt (slice_cmp nat_cmp a b)

-- an entry replaces the one with its UUID, or is inserted before the first greater one
unfoldable pub put : NamespaceEntry → List NamespaceEntry → List NamespaceEntry
put e [] = e ∷ []
put e (f ∷ fs) = if uuid_lt f.uuid e.uuid then f ∷ put e fs else if bytes_eq f.uuid e.uuid then e ∷ fs else e ∷ f ∷ fs

abbrev pub without : List ℕ → List NamespaceEntry → List NamespaceEntry
without uuid entries = filter (λ e. not (bytes_eq e.uuid uuid)) entries

abbrev pub lookup : List ℕ → List NamespaceEntry → Option NamespaceEntry
lookup uuid entries = find (λ e. bytes_eq e.uuid uuid) entries

unfoldable pub put_all : List (Option NamespaceEntry) → List NamespaceEntry
put_all [] = []
put_all (None ∷ entries) = put_all entries
put_all (Some e ∷ entries) = put e (put_all entries)

-- one entry for each UUID that a label names; the labels are ordered by module and slot
abbrev pub entries_of : List (List Mapping) → List Placed → List NamespaceEntry
entries_of sets labels = put_all (map (λ p. entry_at sets labels (uuid_of p)) labels)

abbrev pub extents_in : NamespaceEntry → List Extent
extents_in e = map (λ p. p.extent) e.parts

-- the extents of all entries
abbrev pub extents_of : List NamespaceEntry → List Extent
extents_of entries = flat_map extents_in entries

-- ---- the namespaces of an image set, with the state of its areas

-- a module's label area: whether it is ready, the size of its index blocks, and the number of free slots
pub record AreaSummary : Type 0 where
  pub ready : Bool
  pub block : ℕ
  pub free : ℕ

pub record Namespaces : Type 0 where
  -- the interleave sets by region number, each a list of mappings in order of position
  pub sets : List (List Mapping)
  -- by module number
  pub areas : List AreaSummary
  -- in ascending order of UUIDs
  pub entries : List NamespaceEntry
  -- the claims of UUIDs
  pub claims : List (List ℕ × ℕ)

abbrev pub claims_of : Namespaces → List ℕ → ℕ
claims_of ns uuid = unwrap_or (option_map (λ c. c.1) (find (λ c. bytes_eq c.0 uuid) ns.claims)) 0

-- an entry as a caller sees it
abbrev pub namespace_of : NamespaceEntry → ℕ → Namespace
namespace_of e claims = record {
  uuid = e.uuid;
  name = e.name;
  region = e.region;
  mode = e.mode;
  lba = e.lba;
  extents = extents_in e;
  status = e.status;
  claims = claims;
}

-- the namespaces as a list, in ascending order of UUIDs
abbrev pub listed : Namespaces → List Namespace
listed ns = map (λ e. namespace_of e (claims_of ns e.uuid)) ns.entries
