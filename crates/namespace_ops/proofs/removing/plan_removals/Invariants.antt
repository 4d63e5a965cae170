use Rattle.std.proofs.Common.{◌≡◌, ◌-◌, ◌≤◌, ◌++◌, drop, length, vec_len}
use Rattle.std.specs.List.{flat_map}
use Rattle.std.specs.Vec.{vec_capacity}
use Rattle.namespace_map.specs.Namespaces.{entries_of}
use Rattle.namespace_areas.specs.Groups.{IsStart}
use Rattle.namespace_ops.specs.Plans.{gone_in, all_gone}
use Rattle.namespace_ops.proofs.removing.plan_removals.Given as goal

abbrev pub invariant-loop-at : goal.invariant-loop-at
invariant-loop-at l = record {
  items : l.room.changes.items ++ flat_map (gone_in l.groups.sorted) (entries_of l.regions (drop l.at l.groups.sorted)) ≡ all_gone l.regions l.groups.sorted;
  start : IsStart l.groups.sorted l.at;
  within : l.at ≤ length l.groups.sorted;
  len : vec_len l.room.changes ≤ l.at;
  own : vec_capacity l.fn.room.own ≤ vec_capacity l.room.own;
  capacity : vec_capacity l.fn.room.changes ≤ vec_capacity l.room.changes;
}

abbrev pub decreases-loop-at : goal.decreases-loop-at
decreases-loop-at l = length l.groups.sorted - l.at
