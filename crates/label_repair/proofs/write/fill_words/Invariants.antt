use Rattle.std.proofs.Common.{◌≡◌, ◌*◌, ◌<◌, ℕ, get_or}
use Rattle.std.specs.Int.{w64}
use Rattle.nvd_words.specs.Bytes.{number_at}
use Rattle.label_repair.proofs.write.fill_words.Given as goal

abbrev pub invariant-loop-at : goal.invariant-loop-at
invariant-loop-at l = (k : ℕ) → k < l.at → get_or l.into k 0 ≡ number_at w64 l.bytes (8 * k)
