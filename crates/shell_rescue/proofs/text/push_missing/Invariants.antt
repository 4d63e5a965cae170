use Rattle.std.proofs.Common.{◌≡◌, ◌++◌, drop}
use Rattle.shell_rescue.specs.Lost.{missing_lines}
use Rattle.shell_rescue.proofs.text.push_missing.Given as goal

-- the lines so far and those still to come
abbrev pub invariant-loop-module : goal.invariant-loop-module
invariant-loop-module l = l.text.items ++ missing_lines (drop l.module-index l.modules) ≡ l.fn.text.items ++ missing_lines l.modules
