use Rattle.std.proofs.Common.{◌≡◌, ◌++◌}
use Rattle.namespace_words.proofs.arena_read.into_arenas.Given as goal

abbrev pub invariant-loop-arena : goal.invariant-loop-arena
invariant-loop-arena l = record {
  rest : l.yielded ++ l.arena-iterator.rest.items ≡ l.fn.arenas;
  made : l.made ≡ l.yielded;
}
