use Rattle.std.proofs.Common.{◌≡◌, ◌++◌, drop}
use Rattle.shell_set_check.specs.Namespaces.{status_lines}
use Rattle.shell_set_check.proofs.namespaces.push_statuses.Given as goal

abbrev pub invariant-loop-status : goal.invariant-loop-status
invariant-loop-status l = l.text.items ++ status_lines l.uuid (drop l.status-index l.statuses) ≡ l.fn.text.items ++ status_lines l.uuid l.statuses
