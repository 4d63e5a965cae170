use Rattle.std.proofs.Common.{◌≡◌, ℕ, ◌<◌, ◌≤◌, length, get_or, drop}
use Rattle.namespace_bytes.specs.SectorBytes.{owner_from}
use Rattle.namespace_bytes.specs.SectorPut.{owner_number}
use Rattle.namespace_bytes.proofs.block_owners.put_owners.Given as goal

abbrev pub invariant-loop-own : goal.invariant-loop-own
invariant-loop-own l = record {
  down : l.own ≤ l.opened.info.layout.external;
  long : length l.owners ≡ l.opened.info.layout.internal;
  each : (block : ℕ) → block < length l.owners → get_or l.owners block 0 ≡ owner_number (owner_from l.own (drop l.own l.opened.entries) block);
}

abbrev pub decreases-loop-own : goal.decreases-loop-own
decreases-loop-own l = l.own
