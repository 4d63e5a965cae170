use Rattle.std.proofs.Common.{◌≡◌, ◌+◌, ◌≤◌, ◌++◌, drop, vec_len, Some}
use Rattle.std.specs.List.{filter_map, enumerate_from}
use Rattle.std.specs.Vec.{vec_capacity}
use Rattle.namespace_map.specs.Namespaces.{placed_in, placed_on}
use Rattle.namespace_areas.proofs.filling.put_labels.Given as goal

abbrev pub invariant-loop-slot : goal.invariant-loop-slot
invariant-loop-slot l =
    (l.room.items ++ filter_map (placed_in l.«module») (enumerate_from l.slot (drop l.slot l.labels)) ≡ l.fn.room.items ++ placed_on (l.«module», Some l.labels))
    × (vec_len l.room ≤ vec_len l.fn.room + l.slot) × (vec_capacity l.fn.room ≤ vec_capacity l.room)
