use Rattle.std.proofs.Common.{◌≡◌, take, drop}
use Rattle.arena_open.proofs.read.read_words.Given as goal

abbrev pub invariant-loop-k : goal.invariant-loop-k
invariant-loop-k g l = l.words.items ≡ take l.k (drop l.at (g.W.WordSpace.words l.space).kept)
