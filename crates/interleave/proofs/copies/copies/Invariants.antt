use Rattle.std.proofs.Common.{◌≡◌, take}
use Rattle.interleave.proofs.copies.copies.Given as goal

abbrev pub invariant-loop-position : goal.invariant-loop-position
invariant-loop-position l = l.list.items ≡ take l.position l.mappings
