use Rattle.std.proofs.Common.{◌≡◌, ◌++◌, drop, map}
use Rattle.std.specs.Prelude.{filter}
use Rattle.std.specs.List.{enumerate_from}
use Rattle.namespace_areas.specs.Regions.{is_on, regions_on}
use Rattle.namespace_areas.proofs.regions.regions_on.Given as goal

abbrev pub invariant-loop-number : goal.invariant-loop-number
invariant-loop-number l =
    l.numbers.items ++ map (λ r. r.0) (filter (is_on l.«module») (enumerate_from l.number (drop l.number l.sets))) ≡ regions_on l.sets l.«module»
