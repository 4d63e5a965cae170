use Rattle.std.proofs.Common.{◌≡◌, ◌++◌, length}
use Rattle.std.specs.Prelude.{All}
use Rattle.arena_open.specs.Moves.{IsOpenState}
use Rattle.session_service.specs.Made.{states_in}
use Rattle.session_service.specs.Namespaces.{FirstsFrom, arenas_in, servings_at, servings_of}
use Rattle.session_service.proofs.laying.lay.Given as goal

abbrev pub invariant-loop-namespace : goal.invariant-loop-namespace
invariant-loop-namespace l = record {
  rest : l.yielded ++ l.namespace-iterator.rest.items ≡ l.fn.served.items;
  all : servings_at l.places.items ≡ servings_of l.yielded;
  firsts : FirstsFrom 0 l.places.items;
  count : length (arenas_in (servings_at l.places.items)) ≡ length l.states.items;
  opened : All IsOpenState l.states.items;
  states : l.states.items ≡ states_in l.yielded;
}
