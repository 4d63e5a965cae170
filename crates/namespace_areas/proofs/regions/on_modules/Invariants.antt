use Rattle.std.proofs.Common.{◌≡◌, length}
use Rattle.namespace_areas.specs.Regions.{AreOnModules}
use Rattle.namespace_areas.proofs.regions.on_modules.Given as goal

abbrev pub invariant-loop-module : goal.invariant-loop-module
invariant-loop-module l = AreOnModules l.sets l.lists.items × (length l.lists.items ≡ l.«module»)
