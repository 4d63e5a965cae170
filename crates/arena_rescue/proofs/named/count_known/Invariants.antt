use Rattle.std.proofs.Common.{◌≡◌, length}
use Rattle.map_table.specs.Blocks.{IsCounted}
use Rattle.arena_check.specs.Check.{in_arena}
use Rattle.arena_rescue.specs.Rescue.{known_blocks}
use Rattle.arena_rescue.proofs.named.count_known.Given as goal

abbrev pub invariant-loop-sector : goal.invariant-loop-sector
invariant-loop-sector g l =
    (length l.counts ≡ length l.initial.counts)
    × IsCounted (length l.initial.counts) l.initial.counts l.counts (known_blocks l.layout (in_arena l.at (g.B.BadWords.bad l.bad)) l.entries l.sector)
