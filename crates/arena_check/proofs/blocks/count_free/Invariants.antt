use Rattle.std.proofs.Common.{take}
use Rattle.arena_open.specs.Reading.{free_of}
use Rattle.arena_check.proofs.Counted.{Counted}
use Rattle.arena_check.proofs.blocks.count_free.Given as goal

abbrev pub invariant-loop-group : goal.invariant-loop-group
invariant-loop-group l = Counted l.initial.counts l.counts l.initial.findings l.findings (free_of (take l.group-index l.groups))
