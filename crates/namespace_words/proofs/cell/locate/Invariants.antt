use Rattle.std.proofs.Common.{◌≡◌, ◌+◌, take}
use Rattle.std.specs.Prelude.{sum_by}
use Rattle.arena_open.specs.InPlace.{external_in}
use Rattle.namespace_words.proofs.cell.locate.Given as goal

abbrev pub invariant-loop-k : goal.invariant-loop-k
invariant-loop-k l = l.sector ≡ sum_by external_in (take l.k l.arenas) + l.own
