use Rattle.std.proofs.Common.{◌≡◌, map, drop}
use Rattle.nvd_words.specs.Checks.{first_fault}
use Rattle.set_objects.specs.Found.{end_fault}
use Rattle.set_objects.proofs.mapped.region_fault.Given as goal

abbrev pub invariant-loop-mapping : goal.invariant-loop-mapping
invariant-loop-mapping l =
    first_fault (map (end_fault l.module l.bytes) (drop l.mapping-index l.mappings)) ≡ first_fault (map (end_fault l.module l.bytes) l.mappings)
