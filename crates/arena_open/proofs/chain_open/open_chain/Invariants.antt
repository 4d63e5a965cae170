use Rattle.std.proofs.Common.{◌≡◌, ◌-◌, length}
use Rattle.arena_open.proofs.SoFar.{SoFar}
use Rattle.arena_open.proofs.chain_open.open_chain.Given as goal

abbrev pub invariant-arenas : goal.invariant-arenas
invariant-arenas g l = record {
  so_far : SoFar (g.W.WordSpace.words l.initial.space) l.initial.fuse l.initial.at l.parent (g.W.WordSpace.words l.space) l.fuse l.at l.arenas.items;
  same : g.W.WordSpace.beside l.space ≡ g.W.WordSpace.beside l.initial.space;
}

abbrev pub decreases-arenas : goal.decreases-arenas
decreases-arenas g l = length (g.W.WordSpace.words l.initial.space).kept - l.at
