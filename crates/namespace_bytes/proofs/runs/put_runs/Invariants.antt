use Rattle.std.proofs.Common.{◌≡◌, drop}
use Rattle.namespace_bytes.specs.Changed.{changed_from}
use Rattle.namespace_bytes.specs.Runs.{runs_byte}
use Rattle.namespace_bytes.proofs.runs.put_runs.Given as goal

abbrev pub invariant-loop-run : goal.invariant-loop-run
invariant-loop-run l = changed_from (runs_byte (drop l.run-index l.runs)) l.from l.piece ≡ changed_from (runs_byte l.runs) l.from l.initial.piece
