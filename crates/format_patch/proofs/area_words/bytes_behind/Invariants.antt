use Rattle.std.proofs.Common.{◌≡◌, take}
use Rattle.cut_words.specs.WordBytes.{bytes_of, words_in}
use Rattle.format_patch.specs.Format.{words_behind}
use Rattle.format_patch.proofs.area_words.bytes_behind.Given as goal

-- the bytes of the words so far
abbrev pub invariant-loop-i : goal.invariant-loop-i
invariant-loop-i l = l.bytes.items ≡ bytes_of (take l.i (words_behind l.layout (words_in l.block)))
