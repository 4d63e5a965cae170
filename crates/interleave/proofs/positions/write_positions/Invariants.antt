use Rattle.interleave.specs.Sound.{HavePositions}
use Rattle.interleave.proofs.positions.write_positions.Given as goal

abbrev pub invariant-loop-position : goal.invariant-loop-position
invariant-loop-position l = HavePositions l.mappings l.positions l.position
