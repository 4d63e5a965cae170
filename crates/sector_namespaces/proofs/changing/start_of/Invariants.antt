use Rattle.std.proofs.Common.{◌≡◌, take}
use Rattle.sector_namespaces.specs.Changing.{start_of}
use Rattle.sector_namespaces.proofs.changing.start_of.Given as goal

abbrev pub invariant-loop-i : goal.invariant-loop-i
invariant-loop-i l = l.at ≡ start_of (take l.i l.arenas)
