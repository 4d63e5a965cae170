use Rattle.std.proofs.Common.{◌∙◌, ℕ, List, sym, subst}
use Rattle.std.specs.Prelude.{IfOk}
use Rattle.std.specs.List.{All}
use Rattle.served_namespaces.specs.declared.places.FoundNamespace.{FoundNamespace}
use Rattle.served_namespaces.specs.Places.{AreDisjoint, CanOpen}
use Rattle.shell_reports.proofs.More.{if_more}
use Rattle.shell_serve.specs.Answering.{OpensApart, OpensAs, OpensIn}
use Rattle.shell_serve.proofs.Opens.{apart_as}
use Rattle.shell_serve.proofs.serve.open_script.Goals as goal

pub open_namespaces-requires-clause-can : goal.open_namespaces-requires-clause-can
open_namespaces-requires-clause-can g c = subst (λ (ps : List FoundNamespace). All (CanOpen c.args.set.now.registry.sets) ps) (sym c.deref.ensures.value) c.in-Ok.ensures.can

pub returns-in-Ok-clause-safe : goal.returns-in-Ok-clause-safe
returns-in-Ok-clause-safe g c =
    if_more (OpensAs c.args.set.now.registry.sets c.deref.result.now) (OpensApart c.args.set.now.registry.sets) c.open_namespaces.result
    (λ o here. apart_as c.args.set.now.registry.sets c.deref.result.now (subst (λ (ps : List FoundNamespace). AreDisjoint c.args.set.now.registry.sets ps) (sym c.deref.ensures.value) c.in-Ok.ensures.disjoint) o here) c.open_namespaces.ensures.safe

pub returns-in-Ok-clause-told : goal.returns-in-Ok-clause-told
returns-in-Ok-clause-told g c = λ contents reveals.
    subst (λ (ps : List FoundNamespace). IfOk c.open_namespaces.result (OpensIn c.args.set.now.registry.sets contents ps)) (c.deref.ensures.value ∙ c.in-Ok.ensures.found) (c.open_namespaces.ensures.told contents reveals)
