use Rattle.std.proofs.Common.{◌≡◌, ◌++◌}
use Rattle.session_service.specs.Ends.{words_of}
use Rattle.session_service.proofs.arena_end.ends_of.Given as goal

abbrev pub invariant-loop-words : goal.invariant-loop-words
invariant-loop-words l = record {
  rest : l.yielded ++ l.words-iterator.rest.items ≡ l.fn.arenas.items;
  ends : l.ends.items ≡ words_of l.yielded;
}
