use Rattle.std.proofs.Common.{◌≡◌, ◌≤◌, length, map}
use Rattle.std.specs.Option.{ForSome}
use Rattle.std.specs.List.{range_with_len}
use Rattle.set_objects.specs.Objects.{bad_there}
use Rattle.set_objects.proofs.reading.read_bad.Given as goal

abbrev pub invariant-loop-module : goal.invariant-loop-module
invariant-loop-module g l = record {
  same : g.S.ImageSource.held l.images ≡ g.S.ImageSource.held l.initial.images;
  later : g.S.ImageSource.faults l.initial.images ≤ g.S.ImageSource.faults l.images;
  within : l.module ≤ length l.found;
  count : length l.bad ≡ l.module;
  told : ForSome (g.S.ImageSource.held l.initial.images) (λ set. l.bad ≡ map (bad_there set) (range_with_len 0 l.module));
}
