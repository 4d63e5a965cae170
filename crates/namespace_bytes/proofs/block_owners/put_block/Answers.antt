use Rattle.std.proofs.Common.{arith}
use Rattle.namespace_bytes.proofs.SectorPuts.{behind_sector}
use Rattle.namespace_bytes.proofs.block_owners.put_block.Goals as goal

pub returns-clause-put : goal.returns-clause-put
returns-clause-put c =
    behind_sector c.args.layout.now c.args.own c.args.from c.min.result c.args.bytes.now c.args.piece.now (omega (arith, c.if-from.false, c.from.ensures)) (omega (arith, c.min.ensures))
