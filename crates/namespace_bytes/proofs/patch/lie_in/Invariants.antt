use Rattle.std.proofs.Common.{take}
use Rattle.std.specs.List.{All}
use Rattle.namespace_bytes.specs.Patching.{IsLaidPart}
use Rattle.namespace_bytes.proofs.patch.lie_in.Given as goal

abbrev pub invariant-loop-part : goal.invariant-loop-part
invariant-loop-part l = All (IsLaidPart l.sets) (take l.part-index l.parts)
