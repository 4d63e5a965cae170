use Rattle.std.proofs.Common.{◌≡◌, ◌+◌, ◌*◌, ◌%◌, ◌++◌, length, vec_len}
use Rattle.nvd_words.specs.Bytes.{AreBytes}
use Rattle.cut_words.specs.WordBytes.{bytes_of}
use Rattle.set_objects.proofs.bytes.words_of.Given as goal

abbrev pub invariant-loop-word : goal.invariant-loop-word
invariant-loop-word l = record {
  bytes : AreBytes l.rest;
  whole : length l.rest % 8 ≡ 0;
  count : 8 * vec_len l.words + length l.rest ≡ length l.bytes;
  so_far : bytes_of l.words.items ++ l.rest ≡ l.bytes;
}

abbrev pub decreases-loop-word : goal.decreases-loop-word
decreases-loop-word l = length l.rest
