use Rattle.std.proofs.Common.{sym}
use Rattle.arena_open.proofs.ChainInPlace.{size_in}
use Rattle.arena_open.proofs.ChainSectors.{size_past}
use Rattle.arena_open.proofs.chain_in_place.ReadChain.sector_size.Goals as goal

pub returns-in-Some : goal.returns-in-Some
returns-in-Some g c = size_in c.args.self.now c.args.sector c.in-Some.k c.in-Some.field-0-1 c.info.result.now c.in-Some.ensures c.info.ensures

pub returns-in-None : goal.returns-in-None
returns-in-None g c = sym (size_past c.args.self.now c.args.sector c.in-None.ensures)
