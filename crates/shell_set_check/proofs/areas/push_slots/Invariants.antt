use Rattle.std.proofs.Common.{◌≡◌, ◌++◌, drop}
use Rattle.shell_set_check.specs.Text.{slot_lines}
use Rattle.shell_set_check.proofs.areas.push_slots.Given as goal

abbrev pub invariant-loop-slot : goal.invariant-loop-slot
invariant-loop-slot l =
    l.text.items ++ slot_lines l.«module» l.area l.block.size l.slot (drop l.slot l.free-items) ≡ l.fn.text.items ++ slot_lines l.«module» l.area l.block.size 0 l.free-items
