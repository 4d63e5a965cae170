-- Laws: after a crash other entries are as before, and entries stay apart.
use Rattle.std.specs.Prelude.{◌≡◌, ◌≢◌, ℕ, Bool, false, List, Option, Some, None}
use Rattle.std.specs.List.{Contains}
use Rattle.nfit_reader.specs.declared.table.Mapping.{Mapping}
use Rattle.region_space.specs.Space.{extents_meet}
use Rattle.namespace_map.specs.Namespaces.{Part, NamespaceEntry, Namespaces, lookup}
use Rattle.namespace_map.specs.declared.commands.CreateSpec.{CreateSpec}
use Rattle.namespace_map.specs.declared.commands.Named.{Named}
use Rattle.namespace_map.specs.declared.commands.Command.{Command}
use Rattle.namespace_map.specs.declared.commands.Command.TheVariants.{Create, Delete, Rename}
use Rattle.namespace_map.specs.Areas.{Area, after_steps}
use Rattle.namespace_map.specs.Commands.{refusal_of}
use Rattle.namespace_map.specs.Changes.{namespaces_of, changes_of}
use Rattle.namespace_map.specs.Left.{AreRegions, LabelsAreRead}

-- no extents of the two entries overlap
abbrev pub AreApart : NamespaceEntry → NamespaceEntry → Type 0
AreApart e f = (a b : Part) → Contains e.parts a → Contains f.parts b → extents_meet a.extent b.extent ≡ false

-- no two entries overlap
abbrev pub EntriesApart : Namespaces → Type 0
EntriesApart ns = (u v : List ℕ) (e f : NamespaceEntry) → u ≢ v → lookup u ns.entries ≡ Some e → lookup v ns.entries ≡ Some f → AreApart e f

-- after a crash every other entry is as before
abbrev pub LeavesOthers : List (List Mapping) → List (Option Area) → List ℕ → Command → Type 0
LeavesOthers sets areas uuid c =
    (steps : ℕ) (stays : Bool) (other : List ℕ) → other ≢ uuid
    → lookup other (namespaces_of sets (after_steps areas (changes_of (namespaces_of sets areas) areas c) steps stays)).entries ≡ lookup other (namespaces_of sets areas).entries

-- a law: for a create that isn't refused
abbrev pub CreateLeavesOthers : Type 0
CreateLeavesOthers =
    (sets : List (List Mapping)) (areas : List (Option Area)) (spec : CreateSpec) → AreRegions sets
    → refusal_of (namespaces_of sets areas) (Create spec) ≡ None → LeavesOthers sets areas spec.uuid (Create spec)

-- a law: for a delete that isn't refused
abbrev pub DeleteLeavesOthers : Type 0
DeleteLeavesOthers =
    (sets : List (List Mapping)) (areas : List (Option Area)) (uuid : List ℕ) → AreRegions sets → LabelsAreRead areas
    → refusal_of (namespaces_of sets areas) (Delete uuid) ≡ None → LeavesOthers sets areas uuid (Delete uuid)

-- a law: for a rename that isn't refused
abbrev pub RenameLeavesOthers : Type 0
RenameLeavesOthers =
    (sets : List (List Mapping)) (areas : List (Option Area)) (uuid : List ℕ) (name : Named) → AreRegions sets → LabelsAreRead areas
    → refusal_of (namespaces_of sets areas) (Rename uuid name) ≡ None → LeavesOthers sets areas uuid (Rename uuid name)

-- entries that are apart stay apart after a crash in a command
abbrev pub KeepsApart : List (List Mapping) → List (Option Area) → Command → Type 0
KeepsApart sets areas c =
    EntriesApart (namespaces_of sets areas) → (steps : ℕ) (stays : Bool) → EntriesApart (namespaces_of sets (after_steps areas (changes_of (namespaces_of sets areas) areas c) steps stays))

-- a law: for a create that isn't refused
abbrev pub CreateKeepsApart : Type 0
CreateKeepsApart =
    (sets : List (List Mapping)) (areas : List (Option Area)) (spec : CreateSpec) → AreRegions sets
    → refusal_of (namespaces_of sets areas) (Create spec) ≡ None → KeepsApart sets areas (Create spec)

-- a law: for a delete that isn't refused
abbrev pub DeleteKeepsApart : Type 0
DeleteKeepsApart =
    (sets : List (List Mapping)) (areas : List (Option Area)) (uuid : List ℕ) → AreRegions sets → LabelsAreRead areas
    → refusal_of (namespaces_of sets areas) (Delete uuid) ≡ None → KeepsApart sets areas (Delete uuid)

-- a law: for a rename that isn't refused
abbrev pub RenameKeepsApart : Type 0
RenameKeepsApart =
    (sets : List (List Mapping)) (areas : List (Option Area)) (uuid : List ℕ) (name : Named) → AreRegions sets → LabelsAreRead areas
    → refusal_of (namespaces_of sets areas) (Rename uuid name) ≡ None → KeepsApart sets areas (Rename uuid name)
