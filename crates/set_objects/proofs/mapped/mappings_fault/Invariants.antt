use Rattle.std.proofs.Common.{◌≡◌, map, drop}
use Rattle.nvd_words.specs.Checks.{first_fault}
use Rattle.set_objects.specs.Found.{region_end_fault}
use Rattle.set_objects.proofs.mapped.mappings_fault.Given as goal

abbrev pub invariant-loop-region : goal.invariant-loop-region
invariant-loop-region l =
    first_fault (map (λ region. region_end_fault l.module l.bytes region.mappings) (drop l.region-index l.regions))
    ≡ first_fault (map (λ region. region_end_fault l.module l.bytes region.mappings) l.regions)
