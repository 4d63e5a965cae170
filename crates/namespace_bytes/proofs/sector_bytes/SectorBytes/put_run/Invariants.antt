use Rattle.std.proofs.Common.{◌≡◌, ℕ, ◌+◌, ◌≤◌, length, drop}
use Rattle.std.specs.Prelude.{sum_by}
use Rattle.namespace_bytes.specs.Putting.{link_bytes}
use Rattle.namespace_bytes.specs.SectorBytes.{sector_byte}
use Rattle.namespace_bytes.proofs.sector_bytes.SectorBytes.put_run.Given as goal

abbrev pub invariant-loop-arena : goal.invariant-loop-arena
invariant-loop-arena l = record {
  same : l.piece ≡ l.initial.piece;
  left : l.first + sum_by link_bytes (drop l.arena-index l.self.links) ≡ length l.self.bytes;
  rest : (i old : ℕ) → l.from ≤ i → sector_byte (drop l.arena-index l.self.links) (drop l.first l.self.bytes) i old ≡ sector_byte l.self.links l.self.bytes i old;
}
