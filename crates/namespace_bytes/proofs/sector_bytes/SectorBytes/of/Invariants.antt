use Rattle.std.proofs.Common.{◌≡◌, ◌++◌, map}
use Rattle.std.specs.List.{All}
use Rattle.namespace_bytes.specs.SectorPut.{HasBlocks, IsOwned, link_of}
use Rattle.namespace_bytes.proofs.sector_bytes.SectorBytes.of.Given as goal

abbrev pub invariant-loop-arena : goal.invariant-loop-arena
invariant-loop-arena l = record {
  rest : l.yielded ++ l.arena-iterator.rest.items ≡ l.fn.arenas;
  opened : All HasBlocks l.arena-iterator.rest.items;
  made : map link_of l.owned ≡ l.yielded;
  each : All IsOwned l.owned;
}
