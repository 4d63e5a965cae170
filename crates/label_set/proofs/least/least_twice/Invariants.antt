use Rattle.std.proofs.Common.{◌-◌, ◌^◌}
use Rattle.label_set.proofs.Twice.{NoneBelow}
use Rattle.label_set.proofs.least.least_twice.Given as goal

abbrev pub invariant-loop-next : goal.invariant-loop-next
invariant-loop-next l = NoneBelow l.from l.labels

abbrev pub decreases-loop-next : goal.decreases-loop-next
decreases-loop-next l = 2 ^ 64 - l.from
