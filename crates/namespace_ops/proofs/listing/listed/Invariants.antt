use Rattle.std.proofs.Common.{◌≡◌, ◌-◌, ◌≤◌, ◌++◌, drop, length, map}
use Rattle.namespace_map.specs.Namespaces.{entries_of, namespace_of}
use Rattle.namespace_areas.specs.Groups.{IsStart}
use Rattle.namespace_ops.specs.Claims.{count_of}
use Rattle.namespace_ops.proofs.listing.listed.Given as goal

abbrev pub invariant-loop-at : goal.invariant-loop-at
invariant-loop-at l = record {
  items : l.listed ++ map (λ e. namespace_of e (count_of l.claims.counts e.uuid)) (entries_of l.regions (drop l.at l.groups.sorted)) ≡ map (λ e. namespace_of e (count_of l.claims.counts e.uuid)) (entries_of l.regions l.groups.sorted);
  start : IsStart l.groups.sorted l.at;
  within : l.at ≤ length l.groups.sorted;
}

abbrev pub decreases-loop-at : goal.decreases-loop-at
decreases-loop-at l = length l.groups.sorted - l.at
