-- A law: recovery that is interrupted and run again.
use Rattle.std.specs.Prelude.{◌≡◌, ℕ, Bool, List, Option}
use Rattle.nfit_reader.specs.declared.table.Mapping.{Mapping}
use Rattle.namespace_map.specs.Areas.{Area, after_steps}
use Rattle.namespace_map.specs.Changes.{namespaces_of, recovered_areas, recovery_changes}
use Rattle.namespace_map.specs.Left.{AreRegions, LabelsAreRead}

-- the areas after a crash during recovery, following any number of steps
abbrev pub recovery_cut : List (List Mapping) → List (Option Area) → ℕ → Bool → List (Option Area)
recovery_cut sets areas steps stays = after_steps areas (recovery_changes sets areas) steps stays

-- recovered again, they have the namespaces of an uninterrupted recovery
abbrev pub RecoveryResumes : Type 0
RecoveryResumes =
    (sets : List (List Mapping)) (areas : List (Option Area)) → AreRegions sets → LabelsAreRead areas → (steps : ℕ) (stays : Bool)
    → namespaces_of sets (recovered_areas sets (recovery_cut sets areas steps stays)) ≡ namespaces_of sets (recovered_areas sets areas)
