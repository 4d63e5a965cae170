use Rattle.std.proofs.Common.{◌≡◌, ◌-◌, ◌≤◌, ◌++◌, length, take, drop}
use Rattle.image_set.specs.Patches.{patched_row}
use Rattle.namespace_bytes.specs.Patching.{byte_patched, patch_on}
use Rattle.namespace_bytes.proofs.patch.NamespacePatch.put.Given as goal

abbrev pub invariant-loop-done : goal.invariant-loop-done
invariant-loop-done l = record {
  below : l.done ≤ length l.initial.piece;
  put : l.piece ≡ take l.done (patched_row (byte_patched (patch_on l.set l.self)) l.module l.at l.initial.piece) ++ drop l.done l.initial.piece;
}

abbrev pub decreases-loop-done : goal.decreases-loop-done
decreases-loop-done l = length l.initial.piece - l.done
