use Rattle.std.proofs.Common.{◌≡◌, ◌-◌, ◌≤◌, ◌++◌, drop, length}
use Rattle.namespace_areas.specs.Groups.{IsStart}
use Rattle.namespace_map.specs.Namespaces.{entries_of}
use Rattle.shell_set_check.specs.Namespaces.{entry_lines}
use Rattle.shell_set_check.proofs.namespaces.push_groups.Given as goal

abbrev pub invariant-loop-at : goal.invariant-loop-at
invariant-loop-at l = record {
  text : l.text.items ++ entry_lines l.regions l.groups.sorted (entries_of l.regions (drop l.at l.groups.sorted)) ≡ l.fn.text.items ++ entry_lines l.regions l.groups.sorted (entries_of l.regions l.groups.sorted);
  start : IsStart l.groups.sorted l.at;
  within : l.at ≤ length l.groups.sorted;
}

abbrev pub decreases-loop-at : goal.decreases-loop-at
decreases-loop-at l = length l.groups.sorted - l.at
