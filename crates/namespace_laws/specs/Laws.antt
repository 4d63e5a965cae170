-- Laws: the entry of a command after a crash.
use Rattle.std.specs.Prelude.{◌≡◌, ◌⊎◌, ℕ, Bool, false, List, [], length, Option, Some, None}
use Rattle.nfit_reader.specs.declared.table.Mapping.{Mapping}
use Rattle.label_set.specs.declared.placed.SetStatus.TheVariants.{Complete}
use Rattle.namespace_map.specs.Namespaces.{NamespaceEntry, lookup}
use Rattle.namespace_map.specs.declared.commands.CreateSpec.{CreateSpec}
use Rattle.namespace_map.specs.declared.commands.Named.{Named}
use Rattle.namespace_map.specs.declared.commands.Command.TheVariants.{Create, Delete, Rename}
use Rattle.namespace_map.specs.Areas.{Area, after_steps}
use Rattle.namespace_map.specs.Commands.{set_of, refusal_of, new_entry, renamed, name_in}
use Rattle.namespace_map.specs.Changes.{namespaces_of, changes_of}
use Rattle.namespace_map.specs.Left.{AreRegions, LabelsAreRead, IsPartOf, IsPending, Left}

-- ---- create

-- nothing; an unfinished entry with some of the new one's parts; the new one, pending; or the new one
abbrev pub CutOfCreate : NamespaceEntry → Option NamespaceEntry → Type 0
CutOfCreate new left = (left ≡ None) ⊎ Left (IsPartOf new) left ⊎ Left (IsPending new.name new) left ⊎ (left ≡ Some new)

-- nothing, or the new one
abbrev pub CutOfCreateAlone : NamespaceEntry → Option NamespaceEntry → Type 0
CutOfCreateAlone new left = (left ≡ None) ⊎ (left ≡ Some new)

-- a law: the entry after a crash in a create that isn't refused, following any number of steps
abbrev pub CreateIsCut : Type 0
CreateIsCut =
    (sets : List (List Mapping)) (areas : List (Option Area)) (spec : CreateSpec) → AreRegions sets
    → refusal_of (namespaces_of sets areas) (Create spec) ≡ None → (steps : ℕ) (stays : Bool)
    → CutOfCreate (new_entry (namespaces_of sets areas) spec)
    (lookup spec.uuid (namespaces_of sets (after_steps areas (changes_of (namespaces_of sets areas) areas (Create spec)) steps stays)).entries)

-- a law: if the region has one module, there is nothing in between
abbrev pub CreateAloneIsCut : Type 0
CreateAloneIsCut =
    (sets : List (List Mapping)) (areas : List (Option Area)) (spec : CreateSpec) → AreRegions sets
    → refusal_of (namespaces_of sets areas) (Create spec) ≡ None → length (set_of (namespaces_of sets areas) spec.region) ≡ 1 → (steps : ℕ) (stays : Bool)
    → CutOfCreateAlone (new_entry (namespaces_of sets areas) spec)
    (lookup spec.uuid (namespaces_of sets (after_steps areas (changes_of (namespaces_of sets areas) areas (Create spec)) steps stays)).entries)

-- ---- delete, of an entry that is complete and not pending

-- the entry; the entry, pending; an unfinished one with some of its parts; or nothing
abbrev pub CutOfDelete : NamespaceEntry → Option NamespaceEntry → Type 0
CutOfDelete e left = (left ≡ Some e) ⊎ Left (IsPending e.name e) left ⊎ Left (IsPartOf e) left ⊎ (left ≡ None)

abbrev pub CutOfDeleteAlone : NamespaceEntry → Option NamespaceEntry → Type 0
CutOfDeleteAlone e left = (left ≡ Some e) ⊎ (left ≡ None)

-- a law: the entry after a crash in a delete that isn't refused
abbrev pub DeleteIsCut : Type 0
DeleteIsCut =
    (sets : List (List Mapping)) (areas : List (Option Area)) (uuid : List ℕ) (e : NamespaceEntry) → AreRegions sets → LabelsAreRead areas
    → lookup uuid (namespaces_of sets areas).entries ≡ Some e → e.status ≡ Complete e.name false
    → refusal_of (namespaces_of sets areas) (Delete uuid) ≡ None → (steps : ℕ) (stays : Bool)
    → CutOfDelete e (lookup uuid (namespaces_of sets (after_steps areas (changes_of (namespaces_of sets areas) areas (Delete uuid)) steps stays)).entries)

-- a law: with one part there is nothing in between
abbrev pub DeleteAloneIsCut : Type 0
DeleteAloneIsCut =
    (sets : List (List Mapping)) (areas : List (Option Area)) (uuid : List ℕ) (e : NamespaceEntry) → AreRegions sets → LabelsAreRead areas
    → lookup uuid (namespaces_of sets areas).entries ≡ Some e → e.status ≡ Complete e.name false
    → refusal_of (namespaces_of sets areas) (Delete uuid) ≡ None → length e.parts ≡ 1 → (steps : ℕ) (stays : Bool)
    → CutOfDeleteAlone e (lookup uuid (namespaces_of sets (after_steps areas (changes_of (namespaces_of sets areas) areas (Delete uuid)) steps stays)).entries)

-- ---- rename, of an entry that is complete and not pending

-- the entry; the entry, pending, under its name or the new one; or the entry under the new one
abbrev pub CutOfRename : NamespaceEntry → List ℕ → Option NamespaceEntry → Type 0
CutOfRename e name left = (left ≡ Some e) ⊎ Left (IsPending e.name e) left ⊎ Left (IsPending name e) left ⊎ (left ≡ Some (renamed e name))

abbrev pub CutOfRenameAlone : NamespaceEntry → List ℕ → Option NamespaceEntry → Type 0
CutOfRenameAlone e name left = (left ≡ Some e) ⊎ (left ≡ Some (renamed e name))

-- a law: the entry after a crash in a rename that isn't refused
abbrev pub RenameIsCut : Type 0
RenameIsCut =
    (sets : List (List Mapping)) (areas : List (Option Area)) (uuid : List ℕ) (e : NamespaceEntry) → AreRegions sets → LabelsAreRead areas
    → lookup uuid (namespaces_of sets areas).entries ≡ Some e → e.status ≡ Complete e.name false → (name : Named)
    → refusal_of (namespaces_of sets areas) (Rename uuid name) ≡ None → (steps : ℕ) (stays : Bool)
    → CutOfRename e (name_in name) (lookup uuid (namespaces_of sets (after_steps areas (changes_of (namespaces_of sets areas) areas (Rename uuid name)) steps stays)).entries)

-- a law: with one part there is nothing in between
abbrev pub RenameAloneIsCut : Type 0
RenameAloneIsCut =
    (sets : List (List Mapping)) (areas : List (Option Area)) (uuid : List ℕ) (e : NamespaceEntry) → AreRegions sets → LabelsAreRead areas
    → lookup uuid (namespaces_of sets areas).entries ≡ Some e → e.status ≡ Complete e.name false → (name : Named)
    → refusal_of (namespaces_of sets areas) (Rename uuid name) ≡ None → length e.parts ≡ 1 → (steps : ℕ) (stays : Bool)
    → CutOfRenameAlone e (name_in name) (lookup uuid (namespaces_of sets (after_steps areas (changes_of (namespaces_of sets areas) areas (Rename uuid name)) steps stays)).entries)

-- ---- of any complete entry: one that is pending, with several parts, is settled first

-- the entry as it is once it is settled
abbrev pub settled : NamespaceEntry → NamespaceEntry
settled e = record e { status = Complete e.name false; updating = [] }

-- the entry; the entry with fewer labels that have UPDATING; or what a crash leaves once it is settled
abbrev pub CutOfAny : NamespaceEntry → (NamespaceEntry → Type 0) → Option NamespaceEntry → Type 0
CutOfAny e Then left = (left ≡ Some e) ⊎ Left (IsPending e.name e) left ⊎ Then (settled e)

-- a law: the entry after a crash in a delete that isn't refused
abbrev pub AnyDeleteIsCut : Type 0
AnyDeleteIsCut =
    (sets : List (List Mapping)) (areas : List (Option Area)) (uuid : List ℕ) (e : NamespaceEntry) → AreRegions sets → LabelsAreRead areas
    → lookup uuid (namespaces_of sets areas).entries ≡ Some e
    → refusal_of (namespaces_of sets areas) (Delete uuid) ≡ None → (steps : ℕ) (stays : Bool)
    → let left = lookup uuid (namespaces_of sets (after_steps areas (changes_of (namespaces_of sets areas) areas (Delete uuid)) steps stays)).entries in
    CutOfAny e (λ x. CutOfDelete x left) left

-- a law: the entry after a crash in a rename that isn't refused
abbrev pub AnyRenameIsCut : Type 0
AnyRenameIsCut =
    (sets : List (List Mapping)) (areas : List (Option Area)) (uuid : List ℕ) (e : NamespaceEntry) → AreRegions sets → LabelsAreRead areas
    → lookup uuid (namespaces_of sets areas).entries ≡ Some e → (name : Named)
    → refusal_of (namespaces_of sets areas) (Rename uuid name) ≡ None → (steps : ℕ) (stays : Bool)
    → let left = lookup uuid (namespaces_of sets (after_steps areas (changes_of (namespaces_of sets areas) areas (Rename uuid name)) steps stays)).entries in
    CutOfAny e (λ x. CutOfRename x (name_in name) left) left
