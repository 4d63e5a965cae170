use Rattle.std.proofs.Common.{◌≡◌, take}
use Rattle.std.specs.Prelude.{sum_by}
use Rattle.arena_open.specs.InPlace.{external_in}
use Rattle.namespace_words.proofs.cell.sectors_of_all.Given as goal

abbrev pub invariant-loop-arena : goal.invariant-loop-arena
invariant-loop-arena l = l.count ≡ sum_by external_in (take l.arena-index l.arenas)
