use Rattle.std.proofs.Common.{◌≡◌, ◌++◌, map}
use Rattle.session_service.proofs.laying.add_namespace.Given as goal

abbrev pub invariant-loop-state : goal.invariant-loop-state
invariant-loop-state l = record {
  rest : l.yielded ++ l.state-iterator.rest.items ≡ l.fn.namespace.arenas.items;
  layouts : l.layouts.items ≡ map (λ a. a.info.layout) l.yielded;
  states : l.states.items ≡ l.initial.states.items ++ l.yielded;
}
