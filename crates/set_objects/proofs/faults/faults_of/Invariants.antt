use Rattle.std.proofs.Common.{◌≤◌, ◌*◌, length}
use Rattle.nvd_media.specs.Images.{Images}
use Rattle.set_objects.specs.Found.{AreFoundIn}
use Rattle.set_objects.proofs.Lengths.{AreCounted}
use Rattle.set_objects.proofs.faults.faults_of.Given as goal

abbrev pub invariant-loop-module : goal.invariant-loop-module
invariant-loop-module l = record {
  within : l.module ≤ length l.found;
  small : l.before ≤ 18446744073709551615 * l.module;
  told : (set : Images) → AreFoundIn l.found set → AreCounted l.regions set l.faults l.before l.module;
}
