-- Both rounds of recovery.
use Rattle.std.proofs.Common.{◌≡◌, ℕ, Bool, true, false, List, Option, Result, Ok, Err, is_ok, refl, ap, ◌∙◌, subst}
use Rattle.std.specs.Prelude.{OnOk}
use Rattle.nfit_reader.specs.declared.table.Mapping.{Mapping}
use Rattle.namespace_areas.specs.declared.area.Area.{Area}
use Rattle.namespace_map.specs.Areas.{Area as SeenArea, all_changed}
use Rattle.namespace_map.specs.Commands.{after_recovery}
use Rattle.namespace_map.specs.Changes.{namespaces_of, recovery_changes}
use Rattle.namespace_map.specs.Left.{AreRegions}
use Rattle.namespace_laws.proofs.RecoveryLaw.{recovery_agrees}
use Rattle.namespace_areas.proofs.Seen.{seen_read}
use Rattle.namespace_areas.specs.Seen.{areas_seen}
use Rattle.namespace_areas.specs.Went.{Went}
use Rattle.namespace_areas.proofs.Went.{went_both, went_cut}
use Rattle.namespace_ops.specs.Plans.{gone_round, settling_round}

-- power was cut in the first
pub recovered_cut : (sets : List (List Mapping)) (old new : List Area) (fuse left : Option ℕ) → Went old new fuse left (gone_round sets (areas_seen old)) false
    → Went old new fuse left (recovery_changes sets (areas_seen old)) false
recovered_cut sets old new fuse left went =
    went_cut old new fuse left (gone_round sets (areas_seen old)) (settling_round sets (all_changed (areas_seen old) (gone_round sets (areas_seen old)))) went

-- or it wasn't
pub recovered_both : (sets : List (List Mapping)) (old mid new : List Area) (fuse left last : Option ℕ) (whole : Bool) → Went old mid fuse left (gone_round sets (areas_seen old)) true
    → Went mid new left last (settling_round sets (areas_seen mid)) whole → Went old new fuse last (recovery_changes sets (areas_seen old)) whole
recovered_both sets old mid new fuse left last whole first second =
    went_both old mid new fuse left last (gone_round sets (areas_seen old)) (settling_round sets (all_changed (areas_seen old) (gone_round sets (areas_seen old)))) whole first
    (subst (λ (areas : List (Option SeenArea)). Went mid new left last (settling_round sets areas) whole) (first.done refl) second)

-- where it wasn't, the namespaces are what recovery makes of the map
pub recovered_map : (sets : List (List Mapping)) (old new : List Area) (fuse left : Option ℕ) → AreRegions sets → Went old new fuse left (recovery_changes sets (areas_seen old)) true
    → namespaces_of sets (areas_seen new) ≡ after_recovery (namespaces_of sets (areas_seen old))
recovered_map sets old new fuse left regions went =
    ap (namespaces_of sets) (went.done refl) ∙ recovery_agrees sets (areas_seen old) regions (seen_read old)

pub map_on_ok : {A E : Type 0} (r : Result A E) (sets : List (List Mapping)) (old new : List Area) (fuse left : Option ℕ) → AreRegions sets → Went old new fuse left (recovery_changes sets (areas_seen old)) (is_ok r)
    → OnOk r (namespaces_of sets (areas_seen new) ≡ after_recovery (namespaces_of sets (areas_seen old)))
map_on_ok (Ok x) sets old new fuse left regions went = recovered_map sets old new fuse left regions went
map_on_ok (Err x) sets old new fuse left regions went = tt
