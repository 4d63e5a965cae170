use Rattle.std.proofs.Common.{◌≡◌, ◌+◌, ◌≤◌, ◌++◌, drop, vec_len}
use Rattle.std.specs.Vec.{vec_capacity}
use Rattle.namespace_areas.specs.Seen.{areas_seen}
use Rattle.namespace_ops.specs.Plans.{settlings}
use Rattle.namespace_ops.proofs.settling.add_settlings.Given as goal

abbrev pub invariant-loop-label : goal.invariant-loop-label
invariant-loop-label l = record {
  items : l.changes.items ++ settlings (areas_seen l.areas) l.name (drop l.label-index l.own) ≡ l.fn.changes.items ++ settlings (areas_seen l.areas) l.name l.own;
  len : vec_len l.changes ≤ vec_len l.fn.changes + l.label-index;
  capacity : vec_capacity l.fn.changes ≤ vec_capacity l.changes;
}
