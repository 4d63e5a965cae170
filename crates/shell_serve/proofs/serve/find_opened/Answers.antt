use Rattle.std.proofs.Common.{List, [], sym, subst}
use Rattle.served_namespaces.specs.declared.places.FoundNamespace.{FoundNamespace}
use Rattle.served_namespaces.specs.Places.{AreDifferent, AreDisjoint}
use Rattle.std.specs.Prelude.{Vec}
use Rattle.std.specs.Global.{Global}
use Rattle.shell_reports.proofs.More.{if_more}
use Rattle.shell_serve.proofs.Coming.{apart_in}
use Rattle.shell_serve.proofs.serve.find_opened.Goals as goal

pub returns-clause-disjoint : goal.returns-clause-disjoint
returns-clause-disjoint c =
    let r = c.requires.recovered.1.is [] in
    if_more _ (λ (places : Vec FoundNamespace Global). AreDisjoint c.args.set.now.registry.sets places.items) c.find_each.result
    (λ places apart. apart (apart_in c.args.set.now.registry r.fresh.claims r.apart) (subst AreDifferent (sym c.deref-2.ensures.value) c.in_ok-uuids.ensures.different)) c.find_each.ensures.apart
