use Rattle.std.proofs.Common.{◌≡◌, ◌++◌, drop}
use Rattle.shell_check.specs.Text.{repaired_lines}
use Rattle.shell_check.proofs.text.push_repaired.Given as goal

-- the lines so far and those still to come
abbrev pub invariant-loop-finding : goal.invariant-loop-finding
invariant-loop-finding l = l.text.items ++ repaired_lines l.head l.k (drop l.finding-index l.findings) ≡ l.fn.text.items ++ repaired_lines l.head l.k l.findings
