use Rattle.std.proofs.Common.{◌≡◌, map, drop}
use Rattle.image_set.specs.Patches.{patched_row}
use Rattle.namespace_bytes.specs.Patching.{all_patched, patch_in}
use Rattle.namespace_bytes.proofs.patch.put_parts.Given as goal

abbrev pub invariant-loop-part : goal.invariant-loop-part
invariant-loop-part l = patched_row (all_patched (map (patch_in l.sets) (drop l.part-index l.parts))) l.module l.at l.piece ≡ patched_row (all_patched (map (patch_in l.sets) l.parts)) l.module l.at l.initial.piece
