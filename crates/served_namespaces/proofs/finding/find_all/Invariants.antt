use Rattle.std.proofs.Common.{◌≡◌, ◌++◌, drop}
use Rattle.std.specs.List.{All}
use Rattle.namespace_ops.specs.Counted.{namespaces_in}
use Rattle.namespace_ops.specs.Registered.{state_of}
use Rattle.served_namespaces.specs.Opening.{found_each}
use Rattle.served_namespaces.specs.Places.{CanOpen}
use Rattle.served_namespaces.proofs.finding.find_all.Given as goal

abbrev pub invariant-loop-uuid : goal.invariant-loop-uuid
invariant-loop-uuid l = record {
  found : l.each ++ found_each l.registry.sets (namespaces_in (state_of l.registry)) (drop l.uuid-index l.uuids) ≡ found_each l.registry.sets (namespaces_in (state_of l.registry)) l.uuids;
  lie : All (CanOpen l.registry.sets) l.each;
}
