use Rattle.std.proofs.Common.{◌≡◌, ◌+◌, ◌≤◌, ◌++◌, drop, map, vec_len}
use Rattle.std.specs.Vec.{vec_capacity}
use Rattle.namespace_map.specs.Changes.{change_to}
use Rattle.namespace_ops.specs.Plans.{pairs_of}
use Rattle.namespace_ops.specs.Carried.{becomes}
use Rattle.namespace_ops.proofs.turns.add_round.Given as goal

abbrev pub invariant-loop-label : goal.invariant-loop-label
invariant-loop-label l =
    (l.changes.items ++ map (change_to (becomes l.round)) (pairs_of (drop l.label-index l.own)) ≡ l.fn.changes.items ++ map (change_to (becomes l.round)) (pairs_of l.own))
    × (vec_len l.changes ≡ vec_len l.fn.changes + l.label-index)
    × (vec_capacity l.fn.changes ≤ vec_capacity l.changes)
