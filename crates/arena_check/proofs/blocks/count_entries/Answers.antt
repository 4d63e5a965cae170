use Rattle.std.proofs.Common.{arith}
use Rattle.arena_check.proofs.Counted.{counted_on, blocks_more}
use Rattle.arena_check.proofs.blocks.count_entries.Goals as goal

pub loop-sector-preserved : goal.loop-sector-preserved
loop-sector-preserved c =
    counted_on _ _ _ _ _ _ _ _ _ (blocks_more c.args.entries.now c.loop-sector.sector c.entry.result (omega arith) c.entry.ensures) c.loop-sector.invariant
    c.count_block.ensures.sized c.in_ok-count_block.ensures.counted c.in_ok-count_block.ensures.found
