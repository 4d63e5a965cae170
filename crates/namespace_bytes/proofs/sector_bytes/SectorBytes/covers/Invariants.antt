use Rattle.std.proofs.Common.{◌≡◌, ℕ, ◌≤◌, List, drop}
use Rattle.namespace_bytes.specs.SectorBytes.{sector_byte}
use Rattle.namespace_bytes.proofs.sector_bytes.SectorBytes.covers.Given as goal

abbrev pub invariant-loop-arena : goal.invariant-loop-arena
invariant-loop-arena l =
    (others : List ℕ) × ((i old : ℕ) → l.from ≤ i → sector_byte (drop l.arena-index l.self.links) others i old ≡ sector_byte l.self.links l.self.bytes i old)
