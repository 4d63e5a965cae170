use Rattle.std.proofs.Common.{◌≡◌, ◌+◌, take}
use Rattle.arena_open.specs.ChainCells.{sectors_of}
use Rattle.arena_open.proofs.chain.Chain.locate.Given as goal

abbrev pub invariant-loop-k : goal.invariant-loop-k
invariant-loop-k l = l.sector ≡ sectors_of (take l.k l.arena-items) + l.own
