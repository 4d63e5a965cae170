use Rattle.std.proofs.Common.{◌≡◌, take}
use Rattle.set_objects.specs.Found.{contents_of}
use Rattle.set_objects.proofs.found.contents_sizes.Given as goal

abbrev pub invariant-loop-of_module : goal.invariant-loop-of_module
invariant-loop-of_module l = record { sizes : l.bytes ≡ contents_of (take l.of_module-index l.found) }
