use Rattle.std.proofs.Common.{◌≡◌, ◌++◌, drop}
use Rattle.shell_set_check.specs.Text.{object_lines}
use Rattle.shell_set_check.proofs.objects.push_objects.Given as goal

abbrev pub invariant-loop-fault : goal.invariant-loop-fault
invariant-loop-fault l = l.text.items ++ object_lines (drop l.fault-index l.faults) ≡ l.fn.text.items ++ object_lines l.faults
