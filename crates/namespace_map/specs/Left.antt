-- The entry of a command after a crash, and the premises of the laws.
use Rattle.std.specs.Prelude.{◌≡◌, ◌≢◌, ℕ, ◌<◌, true, false, List, length, slice_get, Option, Some, Ok}
use Rattle.std.specs.List.{AllByRecursion, Contains}
use Rattle.nfit_reader.specs.declared.table.Mapping.{Mapping}
use Rattle.nfit_reader.specs.declared.table.Region.{Region}
use Rattle.interleave.specs.Sets.{set_reading}
use Rattle.label_codec.specs.declared.label.Label.{Label}
use Rattle.label_set.specs.declared.placed.SetStatus.TheVariants.{Complete, Unfinished}
use Rattle.region_space.specs.Space.{ranges_meet}
use Rattle.namespace_map.specs.Namespaces.{NamespaceEntry}
use Rattle.namespace_map.specs.Areas.{Area, slots_on}

-- ---- the premises of the laws

-- the interleave sets of regions; no two of them have overlapping mappings of one module
pub record AreRegions (sets : List (List Mapping)) : Type 0 where
  -- each is the set of a region with at least one mapping
  pub read : (i : ℕ) (set : List Mapping) → slice_get sets i ≡ Some set → (r : Region) × (0 < length r.mappings) × (set_reading r ≡ Ok set)
  pub apart : (i j : ℕ) (s t : List Mapping) (m k : Mapping) → slice_get sets i ≡ Some s → slice_get sets j ≡ Some t → i ≢ j → Contains s m → Contains t k → m.«module» ≡ k.«module»
      → ranges_meet m.start m.size k.start k.size ≡ false

-- labels are as a reader of slots accepts them: each names the number of its slot, and has a positive size
pub record LabelsAreRead (areas : List (Option Area)) : Type 0 where
  pub number : (m s : ℕ) (l : Label) → slice_get (slots_on areas m) s ≡ Some (Some (Some l)) → l.slot ≡ s
  pub bytes : (m s : ℕ) (l : Label) → slice_get (slots_on areas m) s ≡ Some (Some (Some l)) → 0 < l.raw

-- ---- an entry during a command

-- an unfinished entry with some of another entry's parts
pub record IsPartOf (e x : NamespaceEntry) : Type 0 where
  pub unfinished : x.status ≡ Unfinished
  pub uuid : x.uuid ≡ e.uuid
  pub region : x.region ≡ e.region
  pub mode : x.mode ≡ e.mode
  pub lba : x.lba ≡ e.lba
  pub parts : AllByRecursion (Contains e.parts) x.parts

-- the same entry, but complete with this name, and some labels have UPDATING
abbrev pub IsPending : List ℕ → NamespaceEntry → NamespaceEntry → Type 0
IsPending name e x = x ≡ record e { name = name; status = Complete name true; updating = x.updating }

-- there is an entry after the crash, with this property
abbrev pub Left : (NamespaceEntry → Type 0) → Option NamespaceEntry → Type 0
Left P left = (x : NamespaceEntry) × (left ≡ Some x) × P x
