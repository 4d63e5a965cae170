use Rattle.std.proofs.Common.{◌≡◌, ◌≤◌}
use Rattle.served_namespaces.proofs.ReadInTurn.{ReadFirst}
use Rattle.served_namespaces.proofs.reading.read_each.Given as goal

abbrev pub invariant-loop-place : goal.invariant-loop-place
invariant-loop-place g l = record {
  first : ReadFirst l.sets (g.S.ImageSource.held l.fn.images) l.places l.place-index l.read;
  same : g.S.ImageSource.held l.images ≡ g.S.ImageSource.held l.fn.images;
  later : g.S.ImageSource.faults l.fn.images ≤ g.S.ImageSource.faults l.images;
}
