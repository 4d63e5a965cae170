use Rattle.std.proofs.Common.{◌≡◌, ◌+◌, length}
use Rattle.session_script.specs.Lines.{before}
use Rattle.session_script.proofs.lines.count_before.Given as goal

abbrev pub invariant-loop-rest : goal.invariant-loop-rest
invariant-loop-rest l = record { bound : l.count + length l.rest ≡ length l.bytes; same : l.count + length (before l.mark l.rest) ≡ length (before l.mark l.bytes) }

abbrev pub decreases-loop-rest : goal.decreases-loop-rest
decreases-loop-rest l = length l.rest
