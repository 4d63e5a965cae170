use Rattle.std.proofs.Common.{length, map, ap, subst, ◌∙◌}
use Rattle.std.specs.List.{range_with_len}
use Rattle.set_objects.specs.Found.{AreFoundIn, contents_of}
use Rattle.set_objects.specs.Objects.{bad_there, labels_there}
use Rattle.set_objects.proofs.Whole.{AreFaultsOf, found_told, reads_set, set_is_read}
use Rattle.set_objects.proofs.objects.read_set.Goals as goal

pub returns-clause-told : goal.returns-clause-told
returns-clause-told g c = λ set told.
    let there : AreFoundIn c.in_ok-found.found set = found_told set c.in_ok-found.found _ (c.in_ok-found.ensures.told set told) c.in_ok-found.ensures.count in
    let are : AreFaultsOf c.args.table.nfit.regions c.in_ok-found.found c.in_ok-faults.faults =
    subst (λ found. AreFaultsOf c.args.table.nfit.regions found c.in_ok-faults.faults) c.as_slice-2.ensures
    (subst (λ regions. AreFaultsOf regions c.as_slice-2.result.now c.in_ok-faults.faults) c.as_slice.ensures c.in_ok-faults.ensures.faults) in
    reads_set set c.in_ok-found.found _ c.requires.table (c.requires.there set told) there (c.in_ok-found.ensures.count ∙ c.len.ensures) are
    (c.in_ok-sizes.ensures ∙ ap contents_of c.as_slice-3.ensures)
    (c.in_ok-labels.ensures.told set (c.find_modules.ensures.source.same ∙ told) ∙ ap (λ found. map (labels_there set) (range_with_len 0 (length found))) c.as_slice-4.ensures)
    (c.in_ok-bad.ensures.told set (c.read_areas.ensures.source.same ∙ c.find_modules.ensures.source.same ∙ told) ∙ ap (λ found. map (bad_there set) (range_with_len 0 (length found))) c.as_slice-5.ensures)

pub returns-clause-sound : goal.returns-clause-sound
returns-clause-sound g c =
    let are : AreFaultsOf c.args.table.nfit.regions c.in_ok-found.found c.in_ok-faults.faults =
    subst (λ found. AreFaultsOf c.args.table.nfit.regions found c.in_ok-faults.faults) c.as_slice-2.ensures
    (subst (λ regions. AreFaultsOf regions c.as_slice-2.result.now c.in_ok-faults.faults) c.as_slice.ensures c.in_ok-faults.ensures.faults) in
    set_is_read c.in_ok-found.found _ c.requires.table (c.in_ok-found.ensures.count ∙ c.len.ensures) are
    (c.in_ok-sizes.ensures ∙ ap contents_of c.as_slice-3.ensures)
    (c.in_ok-labels.ensures.count ∙ ap length c.as_slice-4.ensures) c.in_ok-labels.ensures.sound
    (c.in_ok-bad.ensures.count ∙ ap length c.as_slice-5.ensures)
