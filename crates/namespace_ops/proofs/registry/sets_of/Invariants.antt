use Rattle.std.proofs.Common.{◌≡◌, length, map, take, drop}
use Rattle.interleave.specs.Sets.{set_reading}
use Rattle.namespace_ops.specs.Opening.{set_fault_from, set_in}
use Rattle.namespace_ops.proofs.registry.sets_of.Given as goal

abbrev pub invariant-loop-region : goal.invariant-loop-region
invariant-loop-region l =
    (l.sets ≡ map (λ region. set_in (set_reading region)) (take l.region l.nfit.regions)) × (set_fault_from l.region (drop l.region l.nfit.regions) ≡ set_fault_from 0 l.nfit.regions)
    × (length l.sets ≡ l.region)
