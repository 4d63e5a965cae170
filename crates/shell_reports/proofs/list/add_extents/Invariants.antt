use Rattle.std.proofs.Common.{◌≡◌, ◌++◌, drop}
use Rattle.shell_reports.specs.List.{extent_lines}
use Rattle.shell_reports.proofs.list.add_extents.Given as goal

abbrev pub invariant-loop-extent : goal.invariant-loop-extent
invariant-loop-extent l = l.text.items ++ extent_lines (drop l.extent-index l.extents) ≡ l.fn.text.items ++ extent_lines l.extents
