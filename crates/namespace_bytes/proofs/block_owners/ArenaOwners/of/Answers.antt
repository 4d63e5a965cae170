use Rattle.std.proofs.Common.{sym, subst}
use Rattle.namespace_bytes.specs.SectorPut.{HasBlocks}
use Rattle.namespace_bytes.proofs.block_owners.ArenaOwners.of.Goals as goal

pub returns-clause-owned : goal.returns-clause-owned
returns-clause-owned c = record {
  blocks = subst HasBlocks (sym c.arena.view_is) c.requires;
  long = c.in_ok-owners.ensures.long;
  each = c.in_ok-owners.ensures.each;
}
