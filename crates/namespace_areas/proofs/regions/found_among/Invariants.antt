use Rattle.std.proofs.Common.{◌≡◌, drop}
use Rattle.namespace_areas.specs.Regions.{found_among}
use Rattle.namespace_areas.proofs.regions.found_among.Given as goal

abbrev pub invariant-loop-number : goal.invariant-loop-number
invariant-loop-number l = found_among l.sets l.label (drop l.number-index l.numbers) ≡ found_among l.sets l.label l.numbers
