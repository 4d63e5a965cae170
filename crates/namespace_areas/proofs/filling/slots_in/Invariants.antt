use Rattle.std.proofs.Common.{◌≡◌, ◌+◌, ◌*◌, ◌≤◌, drop}
use Rattle.std.specs.List.{sum_by}
use Rattle.namespace_areas.specs.Groups.{slots_of, slots_in}
use Rattle.namespace_areas.proofs.filling.slots_in.Given as goal

abbrev pub invariant-loop-area : goal.invariant-loop-area
invariant-loop-area l = (l.count + sum_by slots_of (drop l.area-index l.areas) ≡ slots_in l.areas) × (l.count ≤ 4096 * l.area-index)
