use Rattle.std.proofs.Common.{◌≡◌, ◌*◌, ◌≤◌, ◌^◌, take}
use Rattle.shell_reports.specs.List.{size_in}
use Rattle.shell_reports.proofs.list.size_in.Given as goal

abbrev pub invariant-loop-extent : goal.invariant-loop-extent
invariant-loop-extent l = (l.size ≡ size_in (take l.extent-index l.extents)) × (l.size ≤ l.extent-index * 2 ^ 64)
