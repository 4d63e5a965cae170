use Rattle.std.proofs.Common.{◌≡◌, ◌++◌, drop}
use Rattle.shell_reports.specs.Labels.{lines_from}
use Rattle.shell_reports.proofs.labels.add_lines.Given as goal

abbrev pub invariant-loop-slot : goal.invariant-loop-slot
invariant-loop-slot l =
    l.text.items ++ lines_from l.area l.block.size l.slot (drop l.slot l.free-items) ≡ l.fn.text.items ++ lines_from l.area l.block.size 0 l.free-items
