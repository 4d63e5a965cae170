use Rattle.std.proofs.Common.{◌≡◌, ◌*◌, ◌<◌, ℕ, get_or, take, drop}
use Rattle.label_index.specs.Spelling.{number_of_bits}
use Rattle.label_index.proofs.free.FreeList.write.Given as goal

abbrev pub invariant-loop-at : goal.invariant-loop-at
invariant-loop-at l = (k : ℕ) → k < l.at → get_or l.into k 0 ≡ number_of_bits (take 8 (drop (8 * k) l.self))
