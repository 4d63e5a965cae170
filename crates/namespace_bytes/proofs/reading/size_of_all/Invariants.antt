use Rattle.std.proofs.Common.{◌≡◌, take}
use Rattle.std.specs.Prelude.{sum_by}
use Rattle.namespace_bytes.specs.Putting.{link_bytes}
use Rattle.namespace_bytes.proofs.reading.size_of_all.Given as goal

abbrev pub invariant-loop-arena : goal.invariant-loop-arena
invariant-loop-arena l = l.size ≡ sum_by link_bytes (take l.arena-index l.arenas)
