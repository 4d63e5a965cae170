use Rattle.std.proofs.Common.{◌++◌, ◌∷◌, [], List, Option, sym, subst, ap, ◌∙◌}
use Rattle.std.specs.Prelude.{◌≡◌, OnOk}
use Rattle.std.proofs.lemmas.List.{append-nil}
use Rattle.image_set.specs.declared.fault.LoadFault.{LoadFault}
use Rattle.set_objects.specs.Objects.{faults_in}
use Rattle.set_objects.proofs.Lists.{not_one_fault, one_fault}
use Rattle.set_objects.proofs.faults.push_fault.Goals as goal

pub returns-in-Some : goal.returns-in-Some
returns-in-Some c =
    subst (λ (all : List LoadFault). OnOk c.push.result (c.push.new.self ≡ c.args.faults.now ++ all))
    (sym (ap (λ (o : Option LoadFault). faults_in (o ∷ [])) c.in-Some.is ∙ one_fault c.in-Some.fault)) c.push.ensures.ok

pub returns-in-None : goal.returns-in-None
returns-in-None c =
    sym (ap (λ (all : List LoadFault). c.args.faults.now ++ all) (ap (λ (o : Option LoadFault). faults_in (o ∷ [])) c.in-None.is ∙ not_one_fault) ∙ append-nil c.args.faults.now)
