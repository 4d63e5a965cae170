use Rattle.std.proofs.Common.{◌≡◌, ◌++◌, map}
use Rattle.namespace_areas.specs.Opening.{opened_as, AreWhole}
use Rattle.namespace_areas.proofs.open.open_areas.Given as goal

abbrev pub invariant-loop-words : goal.invariant-loop-words
invariant-loop-words l = record {
  rest : l.yielded ++ l.words-iterator.rest.items ≡ l.fn.labels;
  whole : AreWhole l.words-iterator.rest.items;
  opened : l.areas ≡ map opened_as l.yielded;
}
