use Rattle.std.proofs.Common.{◌≡◌, ◌++◌, drop}
use Rattle.shell_set_check.specs.Text.{areas_lines}
use Rattle.shell_set_check.proofs.areas.push_areas.Given as goal

abbrev pub invariant-loop-module : goal.invariant-loop-module
invariant-loop-module l = l.text.items ++ areas_lines l.«module» (drop l.«module» l.outline.labels) ≡ l.fn.text.items ++ areas_lines 0 l.outline.labels
