use Rattle.std.specs.Prelude.{⊤}
use Rattle.namespace_bytes.proofs.patch.any_covers.Given as goal

abbrev pub invariant-loop-part : goal.invariant-loop-part
invariant-loop-part l = ⊤
