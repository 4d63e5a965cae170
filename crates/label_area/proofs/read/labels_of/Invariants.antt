use Rattle.std.proofs.Common.{◌≡◌, ◌++◌, drop, map}
use Rattle.std.specs.List.{enumerate_from}
use Rattle.label_area.specs.Area.{slot_at, slots_by, labels_in}
use Rattle.label_area.proofs.read.labels_of.Given as goal

abbrev pub invariant-loop-slot : goal.invariant-loop-slot
invariant-loop-slot l =
    l.labels.items ++ labels_in (map (slot_at l.area l.block.size) (enumerate_from l.slot (drop l.slot l.free-items))) ≡ labels_in (slots_by l.area l.block)
