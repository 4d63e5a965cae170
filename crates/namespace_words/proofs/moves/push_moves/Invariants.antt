use Rattle.std.proofs.Common.{◌≡◌, ◌++◌, map, take}
use Rattle.namespace_words.specs.Moves.{move_run}
use Rattle.namespace_words.proofs.moves.push_moves.Given as goal

abbrev pub invariant-loop-half : goal.invariant-loop-half
invariant-loop-half l = l.runs.items ≡ l.initial.runs.items ++ map (move_run l.arena) (take l.half-index l.half-items)
