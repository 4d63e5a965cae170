use Rattle.std.proofs.Common.{◌≡◌, ◌≤◌, ◌++◌}
use Rattle.served_namespaces.proofs.LoadedInTurn.{LoadedFirst}
use Rattle.served_namespaces.proofs.loading.load_each.Given as goal

abbrev pub invariant-loop-namespace : goal.invariant-loop-namespace
invariant-loop-namespace g l = record {
  rest : l.yielded ++ l.namespace-iterator.rest.items ≡ l.fn.read;
  first : LoadedFirst l.sets (g.S.ImageSource.held l.fn.images) l.yielded l.opened;
  same : g.S.ImageSource.held l.images ≡ g.S.ImageSource.held l.fn.images;
  later : g.S.ImageSource.faults l.fn.images ≤ g.S.ImageSource.faults l.images;
}
