-- What the refusals of commands look at, in label areas that are held.
use Rattle.std.specs.Prelude.{ℕ, ◌<◌, ◌^◌, nat_lt, nat_le, not, List, [], ◌∷◌, length, map, find, slice_get, Option, Some, None, is_none, Bool, Result, if◌then◌else◌, unwrap_or}
use Rattle.std.specs.Option.{option_map}
use Rattle.nvd_words.specs.Checks.{fault_if, first_fault, value_unless}
use Rattle.nfit_reader.specs.declared.table.Mapping.{Mapping}
use Rattle.label_set.specs.declared.placed.Placed.{Placed}
use Rattle.label_set.specs.declared.placed.SetStatus.{SetStatus}
use Rattle.label_set.specs.Rules.{module_of, modules_of}
use Rattle.namespace_map.specs.Namespaces.{AreaSummary, Namespaces, extent_of, is_read_only, region_of, status_in}
use Rattle.namespace_map.specs.Commands.{no_area, first_fit_of, is_bad_size, is_complete, least_module, new_offset, set_of, share_of}
use Rattle.namespace_map.specs.declared.commands.CreateSpec.{CreateSpec}
use Rattle.namespace_map.specs.declared.commands.Make.{Make}
use Rattle.namespace_map.specs.Changes.{area_summary, namespaces_of}
use Rattle.namespace_map.specs.declared.refused.OpRefused.{OpRefused}
use Rattle.namespace_map.specs.declared.refused.OpRefused.TheVariants.{BadSize, Exists, ModuleLabels, NoSpace, NoSuch, NoSlot, NotComplete, ReadOnlyLabel}
use Rattle.namespace_areas.specs.declared.area.Area.{Area}
use Rattle.namespace_areas.specs.Areas.{labels_of}
use Rattle.namespace_areas.specs.Seen.{AreHeld, areas_seen}
use Rattle.namespace_areas.specs.Groups.{Grouping, HasGroupsOf}

-- the namespaces that areas show, none of them claimed
abbrev pub shown : List (List Mapping) → List Area → Namespaces
shown sets areas = namespaces_of sets (areas_seen areas)

-- a module's area
abbrev pub area_summary_at : List Area → ℕ → AreaSummary
area_summary_at areas number = unwrap_or (slice_get (map area_summary (areas_seen areas)) number) no_area

-- areas of which none was stopped, and their labels by UUID
pub record AreOpen (areas : List Area) (grouping : Grouping) : Type 0 where
  pub held : AreHeld areas
  pub groups : HasGroupsOf grouping.sorted (labels_of areas)
  pub few : length areas < 2 ^ 32

-- ---- what a refusal looks at in the labels of one UUID, of which the first is given

-- the status of its namespace
abbrev pub status_with : List (List Mapping) → List Placed → Placed → SetStatus
status_with sets labels first = status_in (region_of sets first) labels first

abbrev pub incomplete_of : List (List Mapping) → List Placed → Placed → Option OpRefused
incomplete_of sets labels first = fault_if (not (is_complete (status_with sets labels first))) NotComplete

abbrev pub read_only_of : List Placed → Option OpRefused
read_only_of labels = option_map (λ number. ReadOnlyLabel number) (option_map module_of (find is_read_only labels))

-- the least of their modules that has no free slot
abbrev pub full_of : List Area → List Placed → Option OpRefused
full_of areas labels = option_map (λ number. NoSlot number) (least_module (λ number. nat_lt (area_summary_at areas number).free 1) (map module_of labels))

-- why they aren't removed
abbrev pub deleting : List (List Mapping) → List Area → List Placed → Placed → List (Option OpRefused)
deleting sets areas labels first = incomplete_of sets labels first ∷ read_only_of labels ∷ (if nat_le 2 (length labels) then full_of areas labels else None) ∷ []

-- why they aren't renamed
abbrev pub renaming : List (List Mapping) → List Area → List Placed → Placed → List (Option OpRefused)
renaming sets areas labels first = incomplete_of sets labels first ∷ read_only_of labels ∷ full_of areas labels ∷ []

-- why labels of a UUID aren't changed, by what is asked of them, if there are any
abbrev pub changing : (List Placed → Placed → List (Option OpRefused)) → List Placed → Option OpRefused
changing asked labels = unwrap_or (option_map (λ first. first_fault (asked labels first)) (slice_get labels 0)) (Some NoSuch)

-- ---- what the refusal of a create looks at in the set of its region

-- the least of its modules whose area isn't ready
abbrev pub unready_in : List Area → List Mapping → Option OpRefused
unready_in areas set = option_map (λ number. ModuleLabels number) (least_module (λ number. not (area_summary_at areas number).ready) (modules_of set))

-- the least of its modules with fewer than two free slots
abbrev pub crowded_in : List Area → List Mapping → Option OpRefused
crowded_in areas set = option_map (λ number. NoSlot number) (least_module (λ number. nat_lt (area_summary_at areas number).free 2) (modules_of set))

-- where so many bytes of each module fit beside the extents of labels
abbrev pub fit_beside : List Mapping → List Placed → ℕ → Option ℕ
fit_beside set labels raw = first_fit_of set (map extent_of labels) raw

-- why nothing is made in it beside labels, of which one may have the UUID
abbrev pub creating : List Mapping → List Area → List Placed → Bool → ℕ → Make → List (Option OpRefused)
creating set areas labels taken size made =
    unready_in areas set
    ∷ fault_if taken Exists
    ∷ fault_if (is_bad_size set size made) (BadSize size)
    ∷ crowded_in areas set
    ∷ fault_if (is_none (fit_beside set labels (share_of set size))) (NoSpace (share_of set size))
    ∷ []

-- the offset, or the first refusal
abbrev pub offset_or : List Mapping → List Placed → ℕ → Option OpRefused → Result ℕ OpRefused
offset_or set labels size refused = value_unless (unwrap_or (fit_beside set labels (share_of set size)) 0) refused

-- where a new namespace lies in its region
abbrev pub offset_for : Namespaces → CreateSpec → ℕ
offset_for ns spec = new_offset ns (set_of ns spec.region) (share_of (set_of ns spec.region) spec.size)
