use Rattle.std.proofs.Common.{◌≡◌, ◌+◌, ◌≤◌, ◌++◌, drop, map, vec_len}
use Rattle.std.specs.List.{flat_map, enumerate_from, sum_by}
use Rattle.std.specs.Vec.{vec_capacity}
use Rattle.namespace_map.specs.Namespaces.{placed_on}
use Rattle.namespace_areas.specs.Areas.{shown_in, labels_of}
use Rattle.namespace_areas.specs.Groups.{slots_of, slots_in}
use Rattle.namespace_areas.proofs.filling.fill.Given as goal

abbrev pub invariant-loop-module : goal.invariant-loop-module
invariant-loop-module l =
    (l.room.items ++ flat_map placed_on (enumerate_from l.«module» (map shown_in (drop l.«module» l.areas))) ≡ labels_of l.areas)
    × (vec_len l.room + sum_by slots_of (drop l.«module» l.areas) ≤ slots_in l.areas) × (vec_capacity l.fn.room ≤ vec_capacity l.room)
