use Rattle.std.proofs.Common.{◌≡◌, ◌+◌, ◌-◌, ◌*◌, ◌%◌, ◌≤◌, ℕ, List, length}
use Rattle.std.specs.Prelude.{sum_by}
use Rattle.std.specs.List.{All}
use Rattle.arena_open.proofs.ChainInPlace.{ReadSoFar}
use Rattle.namespace_bytes.specs.SectorBytes.{HaveMapsOfBytes}
use Rattle.namespace_bytes.specs.SectorPut.{HasBlocks}
use Rattle.power_cut.specs.Namespace.{raw_bytes}
use Rattle.namespace_words.specs.Source.{AreWithin, Reveals, bytes_by, sizes_of, words_by}
use Rattle.namespace_bytes.specs.Putting.{link_bytes}
use Rattle.namespace_words.proofs.arenas.read_chain_from.Given as goal

abbrev pub invariant-arenas : goal.invariant-arenas
invariant-arenas g l = record {
  whole : l.at % 512 ≡ 0;
  inside : 8 * l.at + 4096 ≤ raw_bytes l.extent;
  ahead : 2097152 * length l.arenas.items + l.first ≤ l.at;
  each : All HasBlocks l.arenas.items;
  within : AreWithin (raw_bytes l.extent) l.arenas.items;
  sum : sum_by link_bytes l.arenas.items ≤ 8 * l.at;
  sizes : sizes_of l.arenas.items ≤ 8 * l.at;
  same : g.S.ImageSource.held l.images ≡ g.S.ImageSource.held l.fn.images;
  later : g.S.ImageSource.faults l.fn.images ≤ g.S.ImageSource.faults l.images;
  -- if the source reveals its contents, these are the namespace's first arenas
  so_far : (contents : List (List ℕ)) → Reveals (g.S.ImageSource.held l.fn.images) l.extent.set contents → ReadSoFar (words_by l.extent contents) l.first l.parent l.at l.arenas.items;
  maps : (contents : List (List ℕ)) → Reveals (g.S.ImageSource.held l.fn.images) l.extent.set contents → HaveMapsOfBytes (bytes_by l.extent contents) l.arenas.items;
}

abbrev pub decreases-arenas : goal.decreases-arenas
decreases-arenas g l = raw_bytes l.extent - 8 * l.at
