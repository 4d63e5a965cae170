use Rattle.std.proofs.Common.{◌≡◌, ◌++◌, drop}
use Rattle.std.specs.Int.{w32, to_le_bytes}
use Rattle.std.specs.List.{flat_map}
use Rattle.shell_check.proofs.repair.map_run.Given as goal

-- the bytes so far and those still to come
abbrev pub invariant-loop-entry : goal.invariant-loop-entry
invariant-loop-entry l = l.bytes.items ++ flat_map (to_le_bytes w32) (drop l.entry-index l.entry-items) ≡ flat_map (to_le_bytes w32) l.entry-items
