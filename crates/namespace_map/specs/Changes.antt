-- The label changes of the commands, in their order; this project's rules over UEFI 2.10, section 13.19 (Flags, UPDATING).
use Rattle.std.specs.Prelude.{ℕ, ◌+◌, nat_le, Bool, true, ◌&&◌, if◌then◌else◌, List, [], ◌∷◌, ◌++◌, length, map, filter, Option, Some, None}
use Rattle.std.specs.Option.{option_map}
use Rattle.std.specs.List.{flat_map, enumerate_from}
use Rattle.nfit_reader.specs.declared.table.Mapping.{Mapping}
use Rattle.interleave.specs.Places.{cookie_of}
use Rattle.label_codec.specs.declared.label.Label.{Label}
use Rattle.label_codec.specs.Flags.{has_updating, updating, updated}
use Rattle.label_codec.specs.Mode.{persistent_memory, no_abstraction, btt_2_0}
use Rattle.label_area.specs.Area.{labels_in}
use Rattle.label_set.specs.declared.placed.Placed.{Placed}
use Rattle.namespace_map.specs.Namespaces.{NamespaceEntry, AreaSummary, Namespaces, placed_of, labels_with, entries_of, lookup}
use Rattle.namespace_map.specs.declared.commands.Make.{Make}
use Rattle.namespace_map.specs.declared.commands.Make.TheVariants as make
use Rattle.namespace_map.specs.declared.commands.CreateSpec.{CreateSpec}
use Rattle.namespace_map.specs.declared.commands.Named.{Named}
use Rattle.namespace_map.specs.declared.commands.Command.{Command}
use Rattle.namespace_map.specs.declared.commands.Command.TheVariants as command
use Rattle.namespace_map.specs.Areas.{Area, Change, free_in, slots_on, all_changed}
use Rattle.namespace_map.specs.Commands.{no_area, set_of, share_of, new_offset, name_in, lba_for, is_complete, is_pending, is_unfinished}

-- ---- the namespaces of areas

-- the labels of a module's area by slot, if it is ready
abbrev pub labels_at : Option Area → Option (List (Option Label))
labels_at area = option_map (λ a. labels_in a.slots) area

-- the labels of all areas, ordered by module and slot
abbrev pub placed_in_all : List (Option Area) → List Placed
placed_in_all areas = placed_of (map labels_at areas)

abbrev pub area_summary : Option Area → AreaSummary
area_summary None = no_area
area_summary (Some area) = record { ready = true; block = area.block; free = free_in area.slots }

-- the namespaces of the labels of areas, without claims
abbrev pub namespaces_of : List (List Mapping) → List (Option Area) → Namespaces
namespaces_of sets areas = record { sets = sets; areas = map area_summary areas; entries = entries_of sets (placed_in_all areas); claims = [] }

-- ---- changes

abbrev pub with_name : List ℕ → Label → Label
with_name name l = record l { name = name }

-- a module's label is replaced or removed
abbrev pub change_to : (Label → Option Label) → ℕ × Label → Change
change_to become p = record { number = p.0; uuid = p.1.uuid; label = become p.1 }

-- each label is changed in one way and then, in a second round, in another; with one module only the second
abbrev pub in_two : (Label → Option Label) → (Label → Option Label) → List (ℕ × Label) → List Change
in_two first second [] = []
in_two first second (p ∷ []) = change_to second p ∷ []
in_two first second ps = map (change_to first) ps ++ map (change_to second) ps

abbrev pub abstraction_for : Make → List ℕ
abstraction_for make.Raw = no_abstraction
abstraction_for (make.Sector sector lanes) = btt_2_0

-- the label of a new namespace on the module at a position; its slot is set when it is put
abbrev pub new_label : List ℕ → List ℕ → Make → List Mapping → ℕ → ℕ → ℕ × Mapping → ℕ × Label
new_label uuid name made set offset raw m = (
  m.1.«module»,
  record {
    uuid = uuid;
    name = name;
    flags = 0;
    count = length set;
    position = m.0;
    cookie = cookie_of set;
    lba = lba_for made;
    dpa = m.1.start + offset;
    raw = raw;
    slot = 0;
    align = 0;
    kind = persistent_memory;
    abstraction = abstraction_for made;
    spa_cookie = 0;
  },
)

-- the labels of a new namespace, in order of position
abbrev pub new_labels : Namespaces → CreateSpec → List (ℕ × Label)
new_labels ns spec =
    let set = set_of ns spec.region in
    let raw = share_of set spec.size in
    map (new_label spec.uuid (name_in spec.name) spec.make set (new_offset ns set raw) raw) (enumerate_from 0 set)

-- labels in order of position
unfoldable pub by_position_with : Placed → List Placed → List Placed
by_position_with p [] = p ∷ []
by_position_with p (q ∷ qs) = if nat_le p.label.position q.label.position then p ∷ q ∷ qs else q ∷ by_position_with p qs

unfoldable pub by_position : List Placed → List Placed
by_position [] = []
by_position (p ∷ ps) = by_position_with p (by_position ps)

-- the labels of a UUID with their modules, in order of position
abbrev pub own_labels : List (Option Area) → List ℕ → List (ℕ × Label)
own_labels areas uuid = map (λ p. (p.«module», p.label)) (by_position (labels_with uuid (placed_in_all areas)))

-- ---- settling

-- a label with UPDATING on a module with a free slot
abbrev pub is_unsettled : List (Option Area) → ℕ × Label → Bool
is_unsettled areas p = has_updating p.1.flags && nat_le 1 (free_in (slots_on areas p.0))

-- the unsettled labels of a complete entry are rewritten without UPDATING, under the entry's name
abbrev pub settling_changes : List (Option Area) → NamespaceEntry → List Change
settling_changes areas e =
    if is_complete e.status then map (change_to (λ l. Some (with_name e.name (updated l)))) (filter (is_unsettled areas) (own_labels areas e.uuid)) else []

-- a pending entry with two or more labels is settled before anything else is done to it: as long as some of its labels have UPDATING or
-- another name, a crash in what follows could leave an entry that recovery can't judge
abbrev pub settled_first : List (Option Area) → Option NamespaceEntry → List Change
settled_first areas None = []
settled_first areas (Some e) = if is_pending e.status && nat_le 2 (length e.parts) then settling_changes areas e else []

-- these changes, and then those on the areas that they make
abbrev pub then_on : List (Option Area) → List Change → (List (Option Area) → List Change) → List Change
then_on areas first next = first ++ next (all_changed areas first)

-- ---- commands

-- in order of position, each label is put with UPDATING and then removed
abbrev pub delete_changes : List ℕ → List (Option Area) → List Change
delete_changes uuid areas = in_two (λ l. Some (updating l)) (λ l. None) (own_labels areas uuid)

-- in order of position, each label is put with the name and UPDATING, and then with the name and without it
abbrev pub rename_changes : List ℕ → Named → List (Option Area) → List Change
rename_changes uuid name areas = in_two (λ l. Some (with_name (name_in name) (updating l))) (λ l. Some (with_name (name_in name) (updated l))) (own_labels areas uuid)

-- the changes of a command that isn't refused; those of a create are in order of position too
abbrev pub changes_of : Namespaces → List (Option Area) → Command → List Change
changes_of ns areas (command.Create spec) = in_two (λ l. Some (updating l)) (λ l. Some (updated l)) (new_labels ns spec)
changes_of ns areas (command.Delete uuid) = then_on areas (settled_first areas (lookup uuid ns.entries)) (delete_changes uuid)
changes_of ns areas (command.Rename uuid name) = then_on areas (settled_first areas (lookup uuid ns.entries)) (rename_changes uuid name)
changes_of ns areas (command.Claim uuid) = []
changes_of ns areas (command.Unclaim uuid) = []

-- ---- recovery

-- the labels of an unfinished entry are removed
abbrev pub gone_changes : List (Option Area) → NamespaceEntry → List Change
gone_changes areas e = if is_unfinished e.status then map (change_to (λ l. None)) (own_labels areas e.uuid) else []

-- first the labels of each unfinished entry are removed, and then each complete one is settled
abbrev pub recovery_changes : List (List Mapping) → List (Option Area) → List Change
recovery_changes sets areas =
    let gone = flat_map (gone_changes areas) (namespaces_of sets areas).entries in
    let left = all_changed areas gone in
    gone ++ flat_map (settling_changes left) (namespaces_of sets left).entries

abbrev pub recovered_areas : List (List Mapping) → List (Option Area) → List (Option Area)
recovered_areas sets areas = all_changed areas (recovery_changes sets areas)
