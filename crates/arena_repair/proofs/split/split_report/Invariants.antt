use Rattle.std.proofs.Common.{◌≡◌, take}
use Rattle.arena_repair.proofs.Splitting.{open_if, repaired_if}
use Rattle.arena_repair.proofs.split.split_report.Given as goal

abbrev pub invariant-loop-finding : goal.invariant-loop-finding
invariant-loop-finding l = (l.repaired ≡ repaired_if l.is_usable (take l.finding-index l.finding-items)) × (l.left ≡ open_if l.is_usable (take l.finding-index l.finding-items))
