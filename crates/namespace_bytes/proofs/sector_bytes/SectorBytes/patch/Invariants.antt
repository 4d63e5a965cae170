use Rattle.std.proofs.Common.{◌≡◌, ◌-◌, ◌≤◌, length}
use Rattle.namespace_bytes.specs.SectorBytes.{sector_byte}
use Rattle.namespace_bytes.specs.Changed.{changed_front}
use Rattle.namespace_bytes.proofs.sector_bytes.SectorBytes.patch.Given as goal

abbrev pub invariant-loop-done : goal.invariant-loop-done
invariant-loop-done l = record {
  below : l.done ≤ length l.initial.piece;
  put : l.piece ≡ changed_front (sector_byte l.self.links l.self.bytes) l.from l.done l.initial.piece;
}

abbrev pub decreases-loop-done : goal.decreases-loop-done
decreases-loop-done l = length l.initial.piece - l.done
