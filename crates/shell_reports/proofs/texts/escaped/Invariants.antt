use Rattle.std.proofs.Common.{◌≡◌, ◌++◌, length}
use Rattle.shell_reports.specs.Texts.{escaped}
use Rattle.shell_reports.proofs.texts.escaped.Given as goal

abbrev pub invariant-loop-rest : goal.invariant-loop-rest
invariant-loop-rest l = l.bytes.items ++ escaped l.rest ≡ escaped l.text

abbrev pub decreases-loop-rest : goal.decreases-loop-rest
decreases-loop-rest l = length l.rest
