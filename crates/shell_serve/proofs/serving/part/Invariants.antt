use Rattle.std.proofs.Common.{◌≡◌, ◌++◌, map}
use Rattle.shell_serve.specs.Answering.{AreSame}
use Rattle.shell_serve.proofs.serving.part.Given as goal

abbrev pub invariant-loop-namespace : goal.invariant-loop-namespace
invariant-loop-namespace l = record {
  rest : l.yielded ++ l.namespace-iterator.rest.items ≡ l.fn.namespaces;
  places : l.places.items ≡ map (λ o. o.place) l.yielded;
  served : AreSame l.yielded l.served.items;
}
