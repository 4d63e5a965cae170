use Rattle.std.proofs.Common.{◌-◌, length}
use Rattle.arena_open.proofs.ChainInPlace.{ReadSoFar}
use Rattle.namespace_bytes.proofs.reading.read_chain.Given as goal

abbrev pub invariant-arenas : goal.invariant-arenas
invariant-arenas g l = ReadSoFar (g.W.WordSpace.words l.space).kept l.first l.parent l.at l.arenas.items

abbrev pub decreases-arenas : goal.decreases-arenas
decreases-arenas g l = length (g.W.WordSpace.words l.space).kept - l.at
