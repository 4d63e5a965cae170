use Rattle.std.proofs.Common.{◌≡◌, ◌*◌, ◌^◌, ◌≤◌, take}
use Rattle.arena_open.specs.ChainCells.{sectors_of}
use Rattle.shell_serve.proofs.load.sectors_in.Given as goal

abbrev pub invariant-loop-arena : goal.invariant-loop-arena
invariant-loop-arena l = record { sum : l.count ≡ sectors_of (take l.arena-index l.arenas); few : l.count ≤ 2 ^ 30 * l.arena-index }
