use Rattle.std.proofs.Common.{◌≡◌, ◌++◌}
use Rattle.arena_check.specs.Counting.{often_in}
use Rattle.arena_check.proofs.blocks.list_twice.Given as goal

abbrev pub invariant-loop-block : goal.invariant-loop-block
invariant-loop-block l = l.findings ≡ l.initial.findings ++ often_in l.counts l.block
