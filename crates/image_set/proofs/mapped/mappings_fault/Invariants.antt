use Rattle.std.proofs.Common.{◌≡◌, map, drop}
use Rattle.nvd_words.specs.Checks.{first_fault}
use Rattle.image_set.specs.Sizes.{contents_of, region_fault_by}
use Rattle.image_set.proofs.mapped.mappings_fault.Given as goal

abbrev pub invariant-loop-region : goal.invariant-loop-region
invariant-loop-region l =
    first_fault (map (λ region. region_fault_by (contents_of l.sizes) region.mappings) (drop l.region-index l.regions))
    ≡ first_fault (map (λ region. region_fault_by (contents_of l.sizes) region.mappings) l.regions)
