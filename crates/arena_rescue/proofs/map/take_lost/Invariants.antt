use Rattle.arena_check.specs.Check.{in_arena}
use Rattle.arena_rescue.specs.Counting.{counted_twice}
use Rattle.arena_rescue.proofs.Taking.{Taken}
use Rattle.arena_rescue.proofs.map.take_lost.Given as goal

abbrev pub invariant-loop-sector : goal.invariant-loop-sector
invariant-loop-sector g l = Taken l.layout (in_arena l.at (g.B.BadWords.bad l.bad)) (counted_twice l.counts) l.initial.entries l.entries l.losses l.sector
