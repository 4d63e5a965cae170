use Rattle.std.proofs.Common.{◌≡◌, ◌++◌}
use Rattle.served_namespaces.proofs.PutInTurn.{AreFirst}
use Rattle.served_namespaces.proofs.putting.patch_of.Given as goal

abbrev pub invariant-loop-parts : goal.invariant-loop-parts
invariant-loop-parts l = record {
  rest : l.yielded ++ l.parts-iterator.rest.items ≡ l.fn.words.items;
  first : AreFirst l.sets l.places l.yielded l.each;
}
