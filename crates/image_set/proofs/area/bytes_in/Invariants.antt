use Rattle.std.proofs.Common.{◌≡◌, take}
use Rattle.cut_words.specs.WordBytes.{bytes_of}
use Rattle.image_set.proofs.area.bytes_in.Given as goal

abbrev pub invariant-loop-i : goal.invariant-loop-i
invariant-loop-i l = l.bytes.items ≡ bytes_of (take l.i l.words.kept)
