-- Laws: the label changes of a complete command have the effect of its step on the map.
use Rattle.std.specs.Prelude.{◌≡◌, ℕ, List, Option, None}
use Rattle.nfit_reader.specs.declared.table.Mapping.{Mapping}
use Rattle.namespace_map.specs.declared.commands.CreateSpec.{CreateSpec}
use Rattle.namespace_map.specs.declared.commands.Named.{Named}
use Rattle.namespace_map.specs.declared.commands.Command.{Command}
use Rattle.namespace_map.specs.declared.commands.Command.TheVariants.{Create, Delete, Rename}
use Rattle.namespace_map.specs.Areas.{Area, all_changed}
use Rattle.namespace_map.specs.Commands.{refusal_of, done}
use Rattle.namespace_map.specs.Changes.{namespaces_of, changes_of}
use Rattle.namespace_map.specs.Left.{AreRegions, LabelsAreRead}

-- both definitions of a command agree
abbrev pub Agrees : List (List Mapping) → List (Option Area) → Command → Type 0
Agrees sets areas c = namespaces_of sets (all_changed areas (changes_of (namespaces_of sets areas) areas c)) ≡ done (namespaces_of sets areas) c

-- a law: for a create that isn't refused
abbrev pub CreateAgrees : Type 0
CreateAgrees =
    (sets : List (List Mapping)) (areas : List (Option Area)) (spec : CreateSpec) → AreRegions sets
    → refusal_of (namespaces_of sets areas) (Create spec) ≡ None → Agrees sets areas (Create spec)

-- a law: for a delete that isn't refused, of a complete entry, pending or not
abbrev pub DeleteAgrees : Type 0
DeleteAgrees =
    (sets : List (List Mapping)) (areas : List (Option Area)) (uuid : List ℕ) → AreRegions sets → LabelsAreRead areas
    → refusal_of (namespaces_of sets areas) (Delete uuid) ≡ None → Agrees sets areas (Delete uuid)

-- a law: for a rename that isn't refused, of a complete entry, pending or not
abbrev pub RenameAgrees : Type 0
RenameAgrees =
    (sets : List (List Mapping)) (areas : List (Option Area)) (uuid : List ℕ) (name : Named) → AreRegions sets → LabelsAreRead areas
    → refusal_of (namespaces_of sets areas) (Rename uuid name) ≡ None → Agrees sets areas (Rename uuid name)
