use Rattle.std.proofs.Common.{◌≡◌, take}
use Rattle.namespace_words.specs.Moves.{move_runs}
use Rattle.namespace_words.proofs.moves.move_runs.Given as goal

abbrev pub invariant-loop-arena : goal.invariant-loop-arena
invariant-loop-arena l = l.runs.items ≡ move_runs (take l.arena-index l.arenas)
