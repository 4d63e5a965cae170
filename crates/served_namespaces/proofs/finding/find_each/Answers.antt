use Rattle.std.proofs.Common.{◌∙◌, List, refl, sym, subst}
use Rattle.namespace_areas.specs.Seen.{areas_seen}
use Rattle.namespace_ops.specs.Counted.{namespaces_in}
use Rattle.namespace_ops.specs.Registered.{state_of}
use Rattle.served_namespaces.specs.declared.places.FoundNamespace.{FoundNamespace}
use Rattle.served_namespaces.specs.Places.{AreDisjoint, PlaceBytes}
use Rattle.served_namespaces.proofs.Disjoint.{are_disjoint}
use Rattle.served_namespaces.proofs.finding.find_each.Goals as goal

pub returns-clause-apart : goal.returns-clause-apart
returns-clause-apart c = λ apart different.
    subst (λ (ps : List FoundNamespace). AreDisjoint c.args.registry.now.sets ps) (sym (c.into_vec.ensures ∙ c.in_ok-each.ensures.found))
    (are_disjoint c.args.registry.now.sets (subst PlaceBytes c.sets.ensures c.know_sets.ensures) (areas_seen c.args.registry.now.areas) (namespaces_in (state_of c.args.registry.now)) refl apart c.args.uuids.now different)
