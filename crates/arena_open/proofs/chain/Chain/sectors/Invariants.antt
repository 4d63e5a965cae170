use Rattle.std.proofs.Common.{◌≡◌, ◌*◌, ◌^◌, ◌≤◌, take}
use Rattle.arena_open.specs.ChainCells.{sectors_of}
use Rattle.arena_open.proofs.chain.Chain.sectors.Given as goal

abbrev pub invariant-loop-arena : goal.invariant-loop-arena
invariant-loop-arena l = record { sum : l.count ≡ sectors_of (take l.arena-index l.arena-items); few : l.count ≤ 2 ^ 30 * l.arena-index }
