use Rattle.std.proofs.Common.{◌≡◌, ◌++◌, drop}
use Rattle.shell_check.specs.Text.{lines_of}
use Rattle.shell_check.proofs.text.push_lines.Given as goal

-- the lines so far and those still to come
abbrev pub invariant-loop-finding : goal.invariant-loop-finding
invariant-loop-finding l = l.text.items ++ lines_of l.head l.k (drop l.finding-index l.findings) ≡ l.fn.text.items ++ lines_of l.head l.k l.findings
