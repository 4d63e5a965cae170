use Rattle.std.proofs.Common.{◌≡◌, length, take}
use Rattle.map_table.specs.Blocks.{IsCounted}
use Rattle.arena_open.specs.Reading.{free_of}
use Rattle.arena_rescue.proofs.named.count_free.Given as goal

abbrev pub invariant-loop-group : goal.invariant-loop-group
invariant-loop-group l =
    (length l.counts ≡ length l.initial.counts) × IsCounted (length l.initial.counts) l.initial.counts l.counts (free_of (take l.group-index l.groups))
