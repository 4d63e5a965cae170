-- Laws: after a crash in a command, recovery leads to the map before it or after it.
use Rattle.std.specs.Prelude.{◌≡◌, ◌⊎◌, ℕ, Bool, List, Option, None}
use Rattle.nfit_reader.specs.declared.table.Mapping.{Mapping}
use Rattle.namespace_map.specs.declared.commands.CreateSpec.{CreateSpec}
use Rattle.namespace_map.specs.declared.commands.Named.{Named}
use Rattle.namespace_map.specs.declared.commands.Command.{Command}
use Rattle.namespace_map.specs.declared.commands.Command.TheVariants.{Create, Delete, Rename}
use Rattle.namespace_map.specs.Areas.{Area, after_steps}
use Rattle.namespace_map.specs.Commands.{refusal_of, done, after_recovery}
use Rattle.namespace_map.specs.Changes.{namespaces_of, changes_of}
use Rattle.namespace_map.specs.Left.{AreRegions, LabelsAreRead}

-- after a crash, recovery leads to the recovery of the map before the command or of the map after it, with all entries and areas
abbrev pub RecoversToEither : List (List Mapping) → List (Option Area) → Command → Type 0
RecoversToEither sets areas c =
    (steps : ℕ) (stays : Bool) → let left = namespaces_of sets (after_steps areas (changes_of (namespaces_of sets areas) areas c) steps stays) in
    (after_recovery left ≡ after_recovery (namespaces_of sets areas)) ⊎ (after_recovery left ≡ after_recovery (done (namespaces_of sets areas) c))

-- a law: for a create that isn't refused
abbrev pub CreateRecovers : Type 0
CreateRecovers =
    (sets : List (List Mapping)) (areas : List (Option Area)) (spec : CreateSpec) → AreRegions sets
    → refusal_of (namespaces_of sets areas) (Create spec) ≡ None → RecoversToEither sets areas (Create spec)

-- a law: for a delete that isn't refused, of a complete entry, pending or not
abbrev pub DeleteRecovers : Type 0
DeleteRecovers =
    (sets : List (List Mapping)) (areas : List (Option Area)) (uuid : List ℕ) → AreRegions sets → LabelsAreRead areas
    → refusal_of (namespaces_of sets areas) (Delete uuid) ≡ None → RecoversToEither sets areas (Delete uuid)

-- a law: for a rename that isn't refused, of a complete entry, pending or not
abbrev pub RenameRecovers : Type 0
RenameRecovers =
    (sets : List (List Mapping)) (areas : List (Option Area)) (uuid : List ℕ) (name : Named) → AreRegions sets → LabelsAreRead areas
    → refusal_of (namespaces_of sets areas) (Rename uuid name) ≡ None → RecoversToEither sets areas (Rename uuid name)
