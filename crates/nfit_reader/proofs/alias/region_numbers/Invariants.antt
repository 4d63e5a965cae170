use Rattle.std.proofs.Common.{◌≡◌, map, take}
use Rattle.nfit_reader.proofs.alias.region_numbers.Given as goal

abbrev pub invariant-loop-region : goal.invariant-loop-region
invariant-loop-region l = l.indices.items ≡ map (λ r. r.index) (take l.region-index l.regions)
