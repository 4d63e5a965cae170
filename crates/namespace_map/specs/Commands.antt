-- The commands on the namespaces of an image set, as steps on the map of their entries: this project's rules.
use Rattle.std.specs.Prelude.{ℕ, ◌+◌, ◌-◌, ◌*◌, ◌/◌, ◌%◌, ◌==◌, nat_lt, nat_le, Bool, true, false, not, ◌||◌, if◌then◌else◌, List, [], ◌∷◌, length, map, filter, find, slice_get, Option, Some, None, is_some, is_none, unwrap_or, is_err}
use Rattle.std.specs.Option.{option_map}
use Rattle.std.specs.List.{list_any, range_with_len, filter_map}
use Rattle.std.specs.Str.{bytes_eq}
use Rattle.nvd_words.specs.Checks.{first_fault, fault_if}
use Rattle.nfit_reader.specs.declared.table.Mapping.{Mapping}
use Rattle.interleave.specs.Places.{unit_of}
use Rattle.arena_layout.specs.Plan.{planned}
use Rattle.label_codec.specs.declared.mode.Mode.{Mode}
use Rattle.label_codec.specs.declared.mode.Mode.TheVariants as mode
use Rattle.label_codec.specs.Name.{name_made}
use Rattle.label_set.specs.declared.placed.SetStatus.{SetStatus}
use Rattle.label_set.specs.declared.placed.SetStatus.TheVariants.{Complete, Unfinished}
use Rattle.label_set.specs.Rules.{least_where, modules_of}
use Rattle.region_space.specs.declared.extent.Extent.{Extent}
use Rattle.region_space.specs.Space.{fits}
use Rattle.namespace_map.specs.Namespaces.{Part, NamespaceEntry, AreaSummary, Namespaces, lookup, put, without, extents_of, claims_of}
use Rattle.namespace_map.specs.declared.commands.Make.{Make}
use Rattle.namespace_map.specs.declared.commands.Make.TheVariants as make
use Rattle.namespace_map.specs.declared.commands.Named.{Named}
use Rattle.namespace_map.specs.declared.commands.Named.TheVariants as named
use Rattle.namespace_map.specs.declared.commands.CreateSpec.{CreateSpec}
use Rattle.namespace_map.specs.declared.commands.Command.{Command}
use Rattle.namespace_map.specs.declared.commands.Command.TheVariants as command
use Rattle.namespace_map.specs.declared.refused.OpRefused.{OpRefused}
use Rattle.namespace_map.specs.declared.refused.OpRefused.TheVariants.{NoSuch, Exists, NoRegion, NoSpace, NoSlot, Busy, NotComplete, NotSector, BadSize, BadName, ModuleLabels, ReadOnlyLabel}

-- ---- the facts behind a refusal

abbrev pub no_area : AreaSummary
no_area = record { ready = false; block = 0; free = 0 }

abbrev pub area_of : Namespaces → ℕ → AreaSummary
area_of ns which = unwrap_or (slice_get ns.areas which) no_area

abbrev pub set_of : Namespaces → ℕ → List Mapping
set_of ns region = unwrap_or (slice_get ns.sets region) []

abbrev pub is_complete : SetStatus → Bool
is_complete (Complete name pending) = true
is_complete status = false

abbrev pub is_pending : SetStatus → Bool
is_pending (Complete name pending) = pending
is_pending status = false

abbrev pub is_sector : Mode → Bool
is_sector mode.Sector = true
is_sector other = false

-- the modules of an entry, in ascending order
abbrev pub entry_modules : NamespaceEntry → List ℕ
entry_modules e = map (λ p. p.extent.«module») e.parts

-- the least module that passes a test
abbrev pub least_module : (ℕ → Bool) → List ℕ → Option ℕ
least_module test modules = least_where (λ number. number) test modules

-- the least module whose area isn't ready
abbrev pub unready_of : Namespaces → List ℕ → Option OpRefused
unready_of ns modules = option_map (λ number. ModuleLabels number) (least_module (λ number. not (area_of ns number).ready) modules)

-- the least module with fewer free slots than wanted
abbrev pub short_of : Namespaces → ℕ → List ℕ → Option OpRefused
short_of ns wanted modules = option_map (λ number. NoSlot number) (least_module (λ number. nat_lt (area_of ns number).free wanted) modules)

-- the name that a text makes, or the length of a text that isn't a name
abbrev pub named_by : ℕ → Option (List ℕ) → Named
named_by bytes None = named.Refused bytes
named_by bytes (Some name) = named.Good name

abbrev pub named_of : List ℕ → Named
named_of text = named_by (length text) (name_made text)

abbrev pub bad_name : Named → Option OpRefused
bad_name (named.Good name) = None
bad_name (named.Refused bytes) = Some (BadName bytes)

-- the size on each module, in bytes
abbrev pub share_of : List Mapping → ℕ → ℕ
share_of set size = size / length set

-- a sector namespace whose size has no arena
abbrev pub has_no_plan : Make → ℕ → Bool
has_no_plan make.Raw size = false
has_no_plan (make.Sector sector lanes) size = is_err (planned size sector lanes)

abbrev pub is_bad_size : List Mapping → ℕ → Make → Bool
is_bad_size set size made = (size == 0) || not (size % (length set * unit_of set) == 0) || has_no_plan made size

-- the least multiple of the unit at which `raw` bytes of each module fit
abbrev pub first_fit_of : List Mapping → List Extent → ℕ → Option ℕ
first_fit_of [] extents raw = None
first_fit_of (m ∷ ms) extents raw =
    let unit = unit_of (m ∷ ms) in
    find (fits (m ∷ ms) extents raw) (map (λ k. k * unit) (range_with_len 0 (m.size / unit + 1)))

-- ---- refusals, in order

abbrev pub create_refusal : Namespaces → CreateSpec → Option OpRefused
create_refusal ns spec =
    let set = set_of ns spec.region in
    first_fault (
    bad_name spec.name
    ∷ fault_if (is_none (slice_get ns.sets spec.region)) (NoRegion spec.region)
    ∷ unready_of ns (modules_of set)
    ∷ fault_if (is_some (lookup spec.uuid ns.entries)) Exists
    ∷ fault_if (is_bad_size set spec.size spec.make) (BadSize spec.size)
    ∷ short_of ns 2 (modules_of set)
    ∷ fault_if (is_none (first_fit_of set (extents_of ns.entries) (share_of set spec.size))) (NoSpace (share_of set spec.size))
    ∷ [])

-- refuses unless there is an entry and it is complete
abbrev pub entry_refusal : Option NamespaceEntry → (NamespaceEntry → List (Option OpRefused)) → Option OpRefused
entry_refusal None further = Some NoSuch
entry_refusal (Some e) further = first_fault (fault_if (not (is_complete e.status)) NotComplete ∷ further e)

abbrev pub delete_refusal : Namespaces → List ℕ → Option OpRefused
delete_refusal ns uuid = entry_refusal (lookup uuid ns.entries) (λ e.
    fault_if (nat_lt 0 (claims_of ns uuid)) (Busy (claims_of ns uuid))
    ∷ option_map (λ number. ReadOnlyLabel number) e.read_only
    ∷ (if nat_le 2 (length e.parts) then short_of ns 1 (entry_modules e) else None)
    ∷ [])

abbrev pub rename_refusal : Namespaces → List ℕ → Named → Option OpRefused
rename_refusal ns uuid name = first_fault (
    bad_name name
    ∷ entry_refusal (lookup uuid ns.entries) (λ e. option_map (λ number. ReadOnlyLabel number) e.read_only ∷ short_of ns 1 (entry_modules e) ∷ [])
    ∷ [])

abbrev pub claim_refusal : Namespaces → List ℕ → Option OpRefused
claim_refusal ns uuid = entry_refusal (lookup uuid ns.entries) (λ e. fault_if (not (is_sector e.mode)) NotSector ∷ [])

-- the first reason to refuse a command
abbrev pub refusal_of : Namespaces → Command → Option OpRefused
refusal_of ns (command.Create spec) = create_refusal ns spec
refusal_of ns (command.Delete uuid) = delete_refusal ns uuid
refusal_of ns (command.Rename uuid name) = rename_refusal ns uuid name
refusal_of ns (command.Claim uuid) = claim_refusal ns uuid
refusal_of ns (command.Unclaim uuid) = None

-- ---- the effect of a command that isn't refused

abbrev pub count_in : List ℕ → ℕ → ℕ
count_in modules which = length (filter (λ m. m == which) modules)

-- the areas after a slot on each of these modules was taken, or freed
unfoldable pub taken_from : ℕ → List ℕ → List AreaSummary → List AreaSummary
taken_from which modules [] = []
taken_from which modules (a ∷ areas) = record a { free = a.free - count_in modules which } ∷ taken_from (which + 1) modules areas

unfoldable pub given_to : ℕ → List ℕ → List AreaSummary → List AreaSummary
given_to which modules [] = []
given_to which modules (a ∷ areas) = record a { free = a.free + count_in modules which } ∷ given_to (which + 1) modules areas

abbrev pub name_in : Named → List ℕ
name_in (named.Good name) = name
name_in (named.Refused bytes) = []

abbrev pub mode_for : Make → Mode
mode_for make.Raw = mode.Raw
mode_for (make.Sector sector lanes) = mode.Sector

abbrev pub lba_for : Make → ℕ
lba_for make.Raw = 512
lba_for (make.Sector sector lanes) = sector

abbrev pub new_part : List ℕ → ℕ → ℕ → Mapping → Part
new_part uuid offset raw m = record { extent = record { owner = uuid; «module» = m.«module»; start = m.start + offset; length = raw }; align = 0; spa_cookie = 0; flags = 0 }

-- a part on each module of the set, in ascending order
abbrev pub new_parts : List ℕ → ℕ → ℕ → List Mapping → ℕ → List Part
new_parts uuid offset raw set count = filter_map (λ n. option_map (new_part uuid offset raw) (find (λ m. m.«module» == n) set)) (range_with_len 0 count)

-- the offset of a new namespace on each module
abbrev pub new_offset : Namespaces → List Mapping → ℕ → ℕ
new_offset ns set raw = unwrap_or (first_fit_of set (extents_of ns.entries) raw) 0

abbrev pub new_entry : Namespaces → CreateSpec → NamespaceEntry
new_entry ns spec =
    let set = set_of ns spec.region in
    let raw = share_of set spec.size in
    record {
      uuid = spec.uuid;
      name = name_in spec.name;
      region = Some spec.region;
      mode = mode_for spec.make;
      lba = lba_for spec.make;
      parts = new_parts spec.uuid (new_offset ns set raw) raw set (length ns.areas);
      status = Complete (name_in spec.name) false;
      updating = [];
      read_only = None;
    }

abbrev pub created : Namespaces → CreateSpec → Namespaces
created ns spec = record ns {
  areas = taken_from 0 (modules_of (set_of ns spec.region)) ns.areas;
  entries = put (new_entry ns spec) ns.entries;
}

abbrev pub deleted_entry : Namespaces → Option NamespaceEntry → Namespaces
deleted_entry ns None = ns
deleted_entry ns (Some e) = record ns { areas = given_to 0 (entry_modules e) ns.areas; entries = without e.uuid ns.entries }

abbrev pub renamed : NamespaceEntry → List ℕ → NamespaceEntry
renamed e name = record e { name = name; status = Complete name false; updating = [] }

abbrev pub renamed_entry : Namespaces → List ℕ → Option NamespaceEntry → Namespaces
renamed_entry ns name None = ns
renamed_entry ns name (Some e) = record ns { entries = put (renamed e name) ns.entries }

abbrev pub with_claims : Namespaces → List ℕ → ℕ → Namespaces
with_claims ns uuid n = record ns { claims = (uuid, n) ∷ filter (λ c. not (bytes_eq c.0 uuid)) ns.claims }

abbrev pub done : Namespaces → Command → Namespaces
done ns (command.Create spec) = created ns spec
done ns (command.Delete uuid) = deleted_entry ns (lookup uuid ns.entries)
done ns (command.Rename uuid name) = renamed_entry ns (name_in name) (lookup uuid ns.entries)
done ns (command.Claim uuid) = with_claims ns uuid (claims_of ns uuid + 1)
done ns (command.Unclaim uuid) = with_claims ns uuid (claims_of ns uuid - 1)

-- the reply of a command, and the map after it; a refused command changes nothing
abbrev pub step : Namespaces → Command → Option OpRefused × Namespaces
step ns c = unwrap_or (option_map (λ f. (Some f, ns)) (refusal_of ns c)) (None, done ns c)

-- ---- recovery

abbrev pub is_unfinished : SetStatus → Bool
is_unfinished Unfinished = true
is_unfinished status = false

-- the unfinished entries are removed, and their slots freed
unfoldable pub unfinished_gone : Namespaces → List NamespaceEntry → Namespaces
unfinished_gone ns [] = ns
unfinished_gone ns (e ∷ es) = unfinished_gone (if is_unfinished e.status then deleted_entry ns (Some e) else ns) es

abbrev pub settled_status : SetStatus → List ℕ → SetStatus
settled_status (Complete name pending) updating = Complete name (list_any (λ m. true) updating)
settled_status status updating = status

-- each module with a free slot is removed from the `updating` list of a complete entry
abbrev pub settled_entry : Namespaces → NamespaceEntry → NamespaceEntry
settled_entry ns e =
    let updating = if is_complete e.status then filter (λ m. (area_of ns m).free == 0) e.updating else e.updating in
    record e { updating = updating; status = settled_status e.status updating }

abbrev pub after_recovery : Namespaces → Namespaces
after_recovery ns = let gone = unfinished_gone ns ns.entries in record gone { entries = map (settled_entry gone) gone.entries }
