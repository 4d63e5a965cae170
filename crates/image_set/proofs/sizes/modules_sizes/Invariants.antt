use Rattle.std.proofs.Common.{◌≡◌, ◌≤◌}
use Rattle.image_set.proofs.Counting.{Counted}
use Rattle.image_set.proofs.sizes.modules_sizes.Given as goal

abbrev pub invariant-loop-module : goal.invariant-loop-module
invariant-loop-module g l = record {
  same : g.S.ImageSource.held l.images ≡ g.S.ImageSource.held l.initial.images;
  later : g.S.ImageSource.faults l.initial.images ≤ g.S.ImageSource.faults l.images;
  counted : Counted (g.S.ImageSource.held l.initial.images) l.all l.before l.module l.count;
}
