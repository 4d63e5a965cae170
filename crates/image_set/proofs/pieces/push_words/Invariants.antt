use Rattle.std.proofs.Common.{◌≡◌, ◌+◌, ◌*◌, ◌%◌, ◌++◌, length, vec_len}
use Rattle.nvd_words.specs.Bytes.{AreBytes}
use Rattle.cut_words.specs.WordBytes.{bytes_of}
use Rattle.image_set.proofs.pieces.push_words.Given as goal

abbrev pub invariant-loop-bytes : goal.invariant-loop-bytes
invariant-loop-bytes l = record {
  bytes : AreBytes l.rest;
  whole : length l.rest % 8 ≡ 0;
  count : 8 * vec_len l.words + length l.rest ≡ 8 * vec_len l.fn.words + length l.piece;
  so_far : bytes_of l.words.items ++ l.rest ≡ bytes_of l.fn.words.items ++ l.piece;
}

abbrev pub decreases-loop-bytes : goal.decreases-loop-bytes
decreases-loop-bytes l = length l.rest
