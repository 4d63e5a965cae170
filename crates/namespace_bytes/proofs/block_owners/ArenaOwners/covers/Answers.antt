use Rattle.std.proofs.Common.{arith}
use Rattle.namespace_bytes.proofs.SectorRuns.{data_covered}
use Rattle.namespace_bytes.proofs.block_owners.ArenaOwners.covers.Goals as goal

pub returns-then-layout-at-2-clause-covered : goal.returns-then-layout-at-2-clause-covered
returns-then-layout-at-2-clause-covered c = λ is bytes.
    data_covered c.args.self.now.opened c.requires.owned.blocks.layout bytes c.args.at c.args.count
    (omega (arith, c.requires.owned.blocks.layout.inner_enough)) (omega arith) (omega arith) (c.are_owned.ensures is)
