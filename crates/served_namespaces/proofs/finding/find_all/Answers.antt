use Rattle.std.proofs.Common.{◌≡◌, ◌∙◌, ℕ, ◌+◌, List, ◌∷◌, ◌++◌, drop, ap, sym}
use Rattle.namespace_map.specs.Namespaces.{lookup}
use Rattle.namespace_areas.specs.Finding.{found_of}
use Rattle.namespace_ops.specs.Counted.{namespaces_in}
use Rattle.namespace_ops.specs.Registered.{state_of}
use Rattle.served_namespaces.specs.declared.places.FoundNamespace.{FoundNamespace}
use Rattle.served_namespaces.specs.Opening.{found_as, found_each}
use Rattle.served_namespaces.proofs.Firsts.{join_option}
use Rattle.served_namespaces.proofs.Parts.{next_item}
use Rattle.served_namespaces.proofs.finding.find_all.Goals as goal

pub loop-uuid-preserved : goal.loop-uuid-preserved
loop-uuid-preserved c =
    let ns = namespaces_in (state_of c.args.registry.now) in
    let next : drop c.loop-uuid.uuid-index c.args.uuids.now ≡ c.uuid-item.result ∷ drop (c.loop-uuid.uuid-index + 1) c.args.uuids.now =
    next_item c.args.uuids.now c.loop-uuid.uuid-index c.uuid-item.result c.loop-uuid-test.true c.uuid-item.is in
    record {
      found = ap (λ (xs : List FoundNamespace). xs ++ found_each c.args.registry.now.sets (namespaces_in (state_of c.args.registry.now)) (drop (c.loop-uuid.uuid-index + 1) c.args.uuids.now)) c.in_ok-each.ensures.found
          ∙ join_option c.loop-uuid.each (found_each c.args.registry.now.sets (namespaces_in (state_of c.args.registry.now)) (drop (c.loop-uuid.uuid-index + 1) c.args.uuids.now))
          (found_as c.uuid-item.result (found_of c.args.registry.now.sets (lookup c.uuid-item.result (namespaces_in (state_of c.args.registry.now)).entries)))
          ∙ ap (λ (us : List (List ℕ)). c.loop-uuid.each ++ found_each c.args.registry.now.sets (namespaces_in (state_of c.args.registry.now)) us) (sym next)
          ∙ c.loop-uuid.invariant.found;
      lie = c.in_ok-each.ensures.lie;
    }
