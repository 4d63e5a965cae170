use Rattle.std.proofs.Common.{◌≡◌, ◌+◌, ◌*◌, ◌++◌, length}
use Rattle.cut_words.specs.WordBytes.{words_in}
use Rattle.lane_replay.proofs.values.words_of.Given as goal

abbrev pub invariant-loop-word : goal.invariant-loop-word
invariant-loop-word l = record {
  count : 8 * length l.words.items + length l.rest ≡ length l.bytes;
  so_far : l.words.items ++ words_in l.rest ≡ words_in l.bytes;
}

abbrev pub decreases-loop-word : goal.decreases-loop-word
decreases-loop-word l = length l.rest
