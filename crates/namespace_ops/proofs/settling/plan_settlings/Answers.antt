use Rattle.std.proofs.Common.{◌++◌, ◌≤◌, List, length, arith, sym, ap, ◌∙◌}
use Rattle.label_set.specs.declared.placed.Placed.{Placed}
use Rattle.namespace_map.specs.Namespaces.{entry_with}
use Rattle.namespace_areas.specs.Seen.{areas_seen}
use Rattle.namespace_ops.specs.Plans.{all_settling, settling_in, settling_of}
use Rattle.namespace_ops.proofs.Planned.{first_at, group_is, planned_more, planned_all}
use Rattle.namespace_ops.proofs.settling.plan_settlings.Goals as goal

pub loop-at-preserved : goal.loop-at-preserved
loop-at-preserved c =
    let i = c.loop-at.invariant in
    let sets = c.args.regions.now in
    let sorted = c.args.groups.now.sorted in
    let group = c.group_from-group.result.now in
    let first = c.index-group-0.result in
    let next = c.group_from-group.ensures in
    let is = first_at group first next.some c.index-group-0.is in
    let now = c.loop-at.room.changes.items in
    record {
      items = planned_more sets sorted c.loop-at.at group first (settling_in (areas_seen c.args.areas.now) sorted) now c.add_settling.new.room.changes.items (all_settling sets (areas_seen c.args.areas.now) sorted) next is
          (c.add_settling.ensures.items ∙ ap (λ (own : List Placed). now ++ settling_of (areas_seen c.args.areas.now) (entry_with sets group first) own) (sym (group_is sorted c.loop-at.at group first next is))) i.items;
      start = next.next;
      within = next.within;
      len = omega arith;
      own = omega arith;
      capacity = omega arith;
    }

pub returns-clause-items : goal.returns-clause-items
returns-clause-items c =
    let sorted = c.args.groups.now.sorted in
    let past : length sorted ≤ c.loop-at.at = omega (arith, ap length c.labels.ensures.labels) in
    planned_all c.args.regions.now sorted c.loop-at.at (settling_in (areas_seen c.args.areas.now) sorted) c.loop-at.room.changes.items (all_settling c.args.regions.now (areas_seen c.args.areas.now) sorted) past c.loop-at.invariant.items
