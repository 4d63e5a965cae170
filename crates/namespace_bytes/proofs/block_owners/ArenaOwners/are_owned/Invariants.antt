use Rattle.std.proofs.Common.{◌≢◌, ℕ, ◌+◌, ◌-◌, ◌/◌, ◌<◌, None}
use Rattle.namespace_bytes.specs.SectorBytes.{owner_of}
use Rattle.namespace_bytes.proofs.block_owners.ArenaOwners.are_owned.Given as goal

abbrev pub invariant-loop-done : goal.invariant-loop-done
invariant-loop-done l = (k : ℕ) → k < l.done → owner_of l.self.opened ((l.from + k) / l.self.opened.info.layout.inner) ≢ None

abbrev pub decreases-loop-done : goal.decreases-loop-done
decreases-loop-done l = l.count - l.done
