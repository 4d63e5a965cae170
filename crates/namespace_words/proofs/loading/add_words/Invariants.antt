use Rattle.std.proofs.Common.{◌≡◌, ◌++◌, take}
use Rattle.cut_words.specs.WordBytes.{words_in}
use Rattle.namespace_words.proofs.loading.add_words.Given as goal

abbrev pub invariant-loop-k : goal.invariant-loop-k
invariant-loop-k l = l.words.items ≡ l.fn.words.items ++ take l.k (words_in l.bytes)
