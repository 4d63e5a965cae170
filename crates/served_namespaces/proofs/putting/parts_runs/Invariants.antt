use Rattle.std.proofs.Common.{◌≡◌, ◌++◌}
use Rattle.served_namespaces.specs.Putting.{total_of}
use Rattle.served_namespaces.specs.Steps.{ArePartRuns}
use Rattle.served_namespaces.proofs.putting.parts_runs.Given as goal

abbrev pub invariant-loop-part : goal.invariant-loop-part
invariant-loop-part l = record {
  rest : l.yielded ++ l.part-iterator.rest.items ≡ l.fn.parts;
  at : l.at ≡ total_of l.yielded;
  are : ArePartRuns 0 l.yielded l.runs;
}
