use Rattle.std.proofs.Common.{◌≡◌, ◌++◌, map}
use Rattle.namespace_areas.specs.Seen.{words_of}
use Rattle.namespace_areas.proofs.words.into_words.Given as goal

abbrev pub invariant-loop-area : goal.invariant-loop-area
invariant-loop-area l = l.words ++ map words_of l.area-iterator.rest.items ≡ map words_of l.fn.areas.items
