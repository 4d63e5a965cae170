use Rattle.std.proofs.Common.{◌∙◌, arith}
use Rattle.namespace_bytes.proofs.SectorRuns.{data_run, info_kept, log_kept, map_run}
use Rattle.namespace_bytes.proofs.block_owners.ArenaOwners.put.Goals as goal

pub returns-then-at-layout-clause-put : goal.returns-then-at-layout-clause-put
returns-then-at-layout-clause-put c =
    info_kept c.args.self.now.opened c.requires.owned.blocks.layout c.args.bytes.now c.args.at c.min.result c.args.piece.now
    (omega (arith, c.if-at-layout.true, c.min.ensures)) (omega (arith, c.min.ensures))

pub returns-then-at-layout-2-clause-put : goal.returns-then-at-layout-2-clause-put
returns-then-at-layout-2-clause-put c =
    c.put_data.ensures.put
    ∙ data_run c.args.self.now.opened c.requires.owned.blocks.layout c.args.bytes.now c.args.at c.put_data.result c.args.piece.now
    c.if-at-layout.false (omega (arith, c.if-at-layout.false, c.put_data.ensures.inside)) c.put_data.ensures.fits

pub returns-then-at-layout-3-clause-put : goal.returns-then-at-layout-3-clause-put
returns-then-at-layout-3-clause-put c =
    c.put_map.ensures.put
    ∙ map_run c.args.self.now.opened c.requires.owned.blocks.layout c.args.bytes.now c.args.at c.put_map.result c.args.piece.now
    c.if-at-layout-2.false (omega (arith, c.if-at-layout-2.false, c.put_map.ensures.inside)) c.put_map.ensures.fits

pub returns-clause-put : goal.returns-clause-put
returns-clause-put c =
    log_kept c.args.self.now.opened c.requires.owned.blocks.layout c.args.bytes.now c.args.at c.min-2.result c.args.piece.now c.if-at-layout-3.false (omega (arith, c.min-2.ensures))
