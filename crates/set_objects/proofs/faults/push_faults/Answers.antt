use Rattle.std.proofs.Common.{◌≡◌, ◌++◌, ◌∷◌, [], List, ap, subst, ◌∙◌}
use Rattle.std.specs.Prelude.{OnOk}
use Rattle.image_set.specs.declared.fault.LoadFault.{LoadFault}
use Rattle.set_objects.specs.Found.{found_faults}
use Rattle.set_objects.specs.Objects.{faults_in}
use Rattle.set_objects.proofs.Lists.{three_more, three_same}
use Rattle.set_objects.proofs.faults.push_faults.Goals as goal

pub returns : goal.returns
returns c =
    let same : faults_in (c.labels_fault.result ∷ c.contents_fault.result ∷ c.bad_fault.result ∷ []) ≡ found_faults c.args.regions.now c.args.module c.args.before c.args.found.now =
    three_same c.labels_fault.result c.contents_fault.result c.bad_fault.result _ _ _ c.labels_fault.ensures c.contents_fault.ensures c.bad_fault.ensures in
    subst (λ (all : List LoadFault). OnOk c.push_fault-3.result (c.push_fault-3.new.faults ≡ all))
    (three_more c.args.faults.now c.push_fault.new.faults c.push_fault-2.new.faults c.labels_fault.result c.contents_fault.result c.bad_fault.result
    c.in_ok-push_fault.ensures c.in_ok-push_fault-2.ensures
    ∙ ap (λ (faults : List LoadFault). c.args.faults.now ++ faults) same) c.push_fault-3.ensures
