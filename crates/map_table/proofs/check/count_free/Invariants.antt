use Rattle.std.proofs.Common.{length, drop}
use Rattle.map_table.proofs.Counting.{Going}
use Rattle.map_table.proofs.check.count_free.Given as goal

abbrev pub invariant-loop-block : goal.invariant-loop-block
invariant-loop-block l = Going (length l.initial.counts) l.counts (drop l.block-index l.free) l.initial.counts l.free
