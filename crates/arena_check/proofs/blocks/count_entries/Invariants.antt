use Rattle.std.proofs.Common.{take}
use Rattle.map_table.specs.Blocks.{blocks_from}
use Rattle.arena_check.proofs.Counted.{Counted}
use Rattle.arena_check.proofs.blocks.count_entries.Given as goal

abbrev pub invariant-loop-sector : goal.invariant-loop-sector
invariant-loop-sector l = Counted l.initial.counts l.counts l.initial.findings l.findings (blocks_from 0 (take l.sector l.entries))
