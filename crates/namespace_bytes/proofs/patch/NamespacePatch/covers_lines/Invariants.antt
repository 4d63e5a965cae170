use Rattle.std.proofs.Common.{◌-◌, ◌≤◌}
use Rattle.image_set.specs.Patches.{IsCovered}
use Rattle.namespace_bytes.specs.Patching.{byte_patched, patch_on}
use Rattle.namespace_bytes.proofs.patch.NamespacePatch.covers_lines.Given as goal

abbrev pub invariant-loop-done : goal.invariant-loop-done
invariant-loop-done l = (l.done ≤ l.bytes) × IsCovered (byte_patched (patch_on l.set l.self)) l.module l.at l.done

abbrev pub decreases-loop-done : goal.decreases-loop-done
decreases-loop-done l = l.bytes - l.done
