use Rattle.std.proofs.Common.{◌≡◌, ℕ, ◌<◌, ◌^◌, take, get_or}
use Rattle.cut_words.specs.WordBytes.{bytes_of}
use Rattle.namespace_words.proofs.rows.bytes_of.Given as goal

abbrev pub invariant-loop-word : goal.invariant-loop-word
invariant-loop-word l = record {
  bytes : l.bytes.items ≡ bytes_of (take l.word-index l.words);
  fit : (i : ℕ) → i < l.word-index → get_or l.words i 0 < 2 ^ 64;
}
