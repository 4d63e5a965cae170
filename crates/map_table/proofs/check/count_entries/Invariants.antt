use Rattle.std.proofs.Common.{length, drop}
use Rattle.map_table.specs.Blocks.{blocks_from}
use Rattle.map_table.proofs.Counting.{Going}
use Rattle.map_table.proofs.check.count_entries.Given as goal

abbrev pub invariant-loop-sector : goal.invariant-loop-sector
invariant-loop-sector l = Going (length l.initial.counts) l.counts (blocks_from l.sector (drop l.sector l.map)) l.initial.counts (blocks_from 0 l.map)
