-- A law: recovery's label changes have the effect of recovery on the map.
use Rattle.std.specs.Prelude.{◌≡◌, List, Option}
use Rattle.nfit_reader.specs.declared.table.Mapping.{Mapping}
use Rattle.namespace_map.specs.Areas.{Area}
use Rattle.namespace_map.specs.Commands.{after_recovery}
use Rattle.namespace_map.specs.Changes.{namespaces_of, recovered_areas}
use Rattle.namespace_map.specs.Left.{AreRegions, LabelsAreRead}

-- all the changes of recovery, of unfinished and of pending entries, make the areas whose namespaces are those of recovery on the
-- map
abbrev pub RecoveryAgrees : Type 0
RecoveryAgrees = (sets : List (List Mapping)) (areas : List (Option Area)) → AreRegions sets → LabelsAreRead areas → namespaces_of sets (recovered_areas sets areas) ≡ after_recovery (namespaces_of sets areas)
