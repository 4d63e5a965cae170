use Rattle.std.proofs.Common.{◌-◌, length}
use Rattle.nfit_reader.proofs.Spans.{IsReadTo}
use Rattle.nfit_reader.proofs.structures.structures_in.Given as goal

abbrev pub invariant-loop-at : goal.invariant-loop-at
invariant-loop-at l = IsReadTo l.table l.at l.structures

abbrev pub decreases-loop-at : goal.decreases-loop-at
decreases-loop-at l = length l.table - l.at
