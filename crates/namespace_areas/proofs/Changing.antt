-- The refusals of delete and rename, by the labels of one UUID.
use Rattle.std.proofs.Common.{◌≡◌, ℕ, suc, cond, List, [], ◌∷◌, length, map, Option, Some, None, refl, sym, ap, ◌∙◌}
use Rattle.std.specs.Prelude.{nat_le, nat_lt, if◌then◌else◌, slice_get}
use Rattle.std.specs.Option.{option_map}
use Rattle.nvd_words.specs.Checks.{first_fault, fault_if}
use Rattle.nfit_reader.specs.declared.table.Mapping.{Mapping}
use Rattle.label_set.specs.declared.placed.Placed.{Placed}
use Rattle.label_set.specs.Rules.{module_of}
use Rattle.namespace_map.specs.Namespaces.{NamespaceEntry, claims_of, entry_with, labels_with, lookup, part_of}
use Rattle.namespace_map.proofs.Entries.{lookup_entries}
use Rattle.namespace_map.specs.declared.commands.Named.{Named}
use Rattle.namespace_map.specs.declared.refused.OpRefused.{OpRefused}
use Rattle.namespace_map.specs.Changes.{placed_in_all}
use Rattle.namespace_map.specs.Commands.{bad_name, delete_refusal, rename_refusal, entry_refusal, entry_modules, short_of}
use Rattle.namespace_map.specs.declared.refused.OpRefused.TheVariants.{Busy, ReadOnlyLabel}
use Rattle.namespace_areas.specs.declared.area.Area.{Area}
use Rattle.namespace_areas.specs.Seen.{areas_seen}
use Rattle.namespace_areas.proofs.Seen.{seen_labels}
use Rattle.namespace_areas.specs.Groups.{Grouping}
use Rattle.namespace_areas.specs.Refusals.{AreOpen, shown, incomplete_of, read_only_of, deleting, renaming, changing}

-- the labels of a UUID in its group
pub own_labels : (areas : List Area) (grouping : Grouping) → AreOpen areas grouping → (uuid : List ℕ) → labels_with uuid grouping.sorted ≡ labels_with uuid (placed_in_all (areas_seen areas))
own_labels areas grouping is_open uuid = is_open.groups uuid ∙ ap (labels_with uuid) (sym (seen_labels areas is_open.held))

-- the entry of a UUID
pub entry_of_group : (sets : List (List Mapping)) (areas : List Area) (grouping : Grouping) → AreOpen areas grouping → (uuid : List ℕ)
    → lookup uuid (shown sets areas).entries ≡ option_map (entry_with sets (labels_with uuid grouping.sorted)) (slice_get (labels_with uuid grouping.sorted) 0)
entry_of_group sets areas grouping is_open uuid =
    lookup_entries sets (placed_in_all (areas_seen areas)) uuid ∙ ap (λ (own : List Placed). option_map (entry_with sets own) (slice_get own 0)) (sym (own_labels areas grouping is_open uuid))

modules_in : (labels : List Placed) → map (λ p. p.extent.«module») (map part_of labels) ≡ map module_of labels
modules_in [] = refl
modules_in (p ∷ ps) = ap (λ (ms : List ℕ). p.«module» ∷ ms) (modules_in ps)

parts_count : (labels : List Placed) → length (map part_of labels) ≡ length labels
parts_count [] = refl
parts_count (p ∷ ps) = ap suc (parts_count ps)

second_none : {F : Type 0} (a : Option F) (faults : List (Option F)) → first_fault (a ∷ None ∷ faults) ≡ first_fault (a ∷ faults)
unfolding first_fault
second_none None faults = refl
second_none (Some f) faults = refl

-- what the definitions ask of an entry
abbrev deleted_on : List (List Mapping) → List Area → List ℕ → NamespaceEntry → List (Option OpRefused)
deleted_on sets areas uuid e =
    fault_if (nat_lt 0 (claims_of (shown sets areas) uuid)) (Busy (claims_of (shown sets areas) uuid)) ∷ option_map (λ number. ReadOnlyLabel number) e.read_only
    ∷ (if nat_le 2 (length e.parts) then short_of (shown sets areas) 1 (entry_modules e) else None) ∷ []

abbrev renamed_on : List (List Mapping) → List Area → NamespaceEntry → List (Option OpRefused)
renamed_on sets areas e = option_map (λ number. ReadOnlyLabel number) e.read_only ∷ short_of (shown sets areas) 1 (entry_modules e) ∷ []

delete_by : (sets : List (List Mapping)) (areas : List Area) (p : Placed) (ps : List Placed) (n : ℕ) (modules : List ℕ) → n ≡ length (p ∷ ps) → modules ≡ map module_of (p ∷ ps)
    → first_fault (incomplete_of sets (p ∷ ps) p ∷ None ∷ read_only_of (p ∷ ps) ∷ cond (nat_le 2 n) (short_of (shown sets areas) 1 modules) None ∷ []) ≡ first_fault (deleting sets areas (p ∷ ps) p)
delete_by sets areas p ps n modules count are =
    second_none (incomplete_of sets (p ∷ ps) p) _
    ∙ ap (λ (k : ℕ). first_fault (incomplete_of sets (p ∷ ps) p ∷ read_only_of (p ∷ ps) ∷ cond (nat_le 2 k) (short_of (shown sets areas) 1 modules) None ∷ [])) count
    ∙ ap (λ (ms : List ℕ). first_fault (incomplete_of sets (p ∷ ps) p ∷ read_only_of (p ∷ ps) ∷ cond (nat_le 2 (length (p ∷ ps))) (short_of (shown sets areas) 1 ms) None ∷ [])) are

pub delete_of : (sets : List (List Mapping)) (areas : List Area) (uuid : List ℕ) (own : List Placed) → lookup uuid (shown sets areas).entries ≡ option_map (entry_with sets own) (slice_get own 0)
    → delete_refusal (shown sets areas) uuid ≡ changing (deleting sets areas) own
delete_of sets areas uuid [] is = ap (λ (o : Option NamespaceEntry). entry_refusal o (λ e. deleted_on sets areas uuid e)) is
delete_of sets areas uuid (p ∷ ps) is =
    ap (λ (o : Option NamespaceEntry). entry_refusal o (λ e. deleted_on sets areas uuid e)) is
    ∙ delete_by sets areas p ps (length (map part_of (p ∷ ps))) (map (λ p. p.extent.«module») (map part_of (p ∷ ps))) (parts_count (p ∷ ps)) (modules_in (p ∷ ps))

rename_by : (sets : List (List Mapping)) (areas : List Area) (p : Placed) (ps : List Placed) (name : Option OpRefused) (modules : List ℕ) → modules ≡ map module_of (p ∷ ps)
    → first_fault (name ∷ first_fault (incomplete_of sets (p ∷ ps) p ∷ read_only_of (p ∷ ps) ∷ short_of (shown sets areas) 1 modules ∷ []) ∷ []) ≡ first_fault (name ∷ first_fault (renaming sets areas (p ∷ ps) p) ∷ [])
rename_by sets areas p ps name modules are = ap (λ (ms : List ℕ). first_fault (name ∷ first_fault (incomplete_of sets (p ∷ ps) p ∷ read_only_of (p ∷ ps) ∷ short_of (shown sets areas) 1 ms ∷ []) ∷ [])) are

pub rename_of : (sets : List (List Mapping)) (areas : List Area) (uuid : List ℕ) (name : Named) (own : List Placed) → lookup uuid (shown sets areas).entries ≡ option_map (entry_with sets own) (slice_get own 0)
    → rename_refusal (shown sets areas) uuid name ≡ first_fault (bad_name name ∷ changing (renaming sets areas) own ∷ [])
rename_of sets areas uuid name [] is = ap (λ (o : Option NamespaceEntry). first_fault (bad_name name ∷ entry_refusal o (λ e. renamed_on sets areas e) ∷ [])) is
rename_of sets areas uuid name (p ∷ ps) is =
    ap (λ (o : Option NamespaceEntry). first_fault (bad_name name ∷ entry_refusal o (λ e. renamed_on sets areas e) ∷ [])) is
    ∙ rename_by sets areas p ps (bad_name name) (map (λ p. p.extent.«module») (map part_of (p ∷ ps))) (modules_in (p ∷ ps))
