use Rattle.std.proofs.Common.{◌≡◌, map, drop}
use Rattle.nvd_words.specs.Checks.{first_fault}
use Rattle.image_set.specs.Sizes.{contents_of, mapping_fault_by}
use Rattle.image_set.proofs.mapped.region_fault.Given as goal

abbrev pub invariant-loop-mapping : goal.invariant-loop-mapping
invariant-loop-mapping l =
    first_fault (map (mapping_fault_by (contents_of l.sizes)) (drop l.mapping-index l.mappings)) ≡ first_fault (map (mapping_fault_by (contents_of l.sizes)) l.mappings)
