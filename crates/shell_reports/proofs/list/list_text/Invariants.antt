use Rattle.std.proofs.Common.{◌≡◌, ◌++◌, drop}
use Rattle.shell_reports.specs.List.{list_text}
use Rattle.shell_reports.proofs.list.list_text.Given as goal

abbrev pub invariant-loop-namespace : goal.invariant-loop-namespace
invariant-loop-namespace l = l.text.items ++ list_text (drop l.namespace-index l.namespaces) ≡ list_text l.namespaces
