use Rattle.std.proofs.Common.{◌≡◌, ◌*◌, take, drop, length}
use Rattle.cut_words.specs.WordBytes.{bytes_of}
use Rattle.arena_open.proofs.read.info_bytes.Given as goal

-- the words so far are at their places
abbrev pub invariant-loop-k : goal.invariant-loop-k
invariant-loop-k g l = record {
  count : length l.bytes ≡ 4096;
  front : take (8 * l.k) l.bytes ≡ bytes_of (take l.k (drop l.at (g.W.WordSpace.words l.space).kept));
}
