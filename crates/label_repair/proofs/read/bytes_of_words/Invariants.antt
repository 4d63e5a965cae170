use Rattle.std.proofs.Common.{◌≡◌, ◌++◌, drop}
use Rattle.cut_words.specs.WordBytes.{bytes_of}
use Rattle.label_repair.proofs.read.bytes_of_words.Given as goal

abbrev pub invariant-loop-i : goal.invariant-loop-i
invariant-loop-i l = l.bytes.items ++ bytes_of (drop l.i l.words.kept) ≡ bytes_of l.words.kept
