use Rattle.std.proofs.Common.{take}
use Rattle.nfit_reader.specs.Names.{IsGrouped}
use Rattle.nfit_reader.proofs.regions.grouped.Given as goal

abbrev pub invariant-loop-link : goal.invariant-loop-link
invariant-loop-link l = IsGrouped l.groups (take l.link-index l.links)
