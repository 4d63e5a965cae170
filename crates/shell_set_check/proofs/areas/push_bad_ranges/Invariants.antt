use Rattle.std.proofs.Common.{◌≡◌, ◌++◌, drop}
use Rattle.shell_set_check.specs.Text.{bad_lines}
use Rattle.shell_set_check.proofs.areas.push_bad_ranges.Given as goal

abbrev pub invariant-loop-module : goal.invariant-loop-module
invariant-loop-module l = l.text.items ++ bad_lines l.«module» (drop l.«module» l.bad) ≡ l.fn.text.items ++ bad_lines 0 l.bad
