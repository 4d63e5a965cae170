use Rattle.std.proofs.Common.{◌≡◌, ◌≤◌, length, map}
use Rattle.std.specs.Option.{ForSome}
use Rattle.std.specs.List.{range_with_len}
use Rattle.set_objects.specs.Found.{found_in}
use Rattle.set_objects.proofs.found.find_modules.Given as goal

abbrev pub invariant-loop-module : goal.invariant-loop-module
invariant-loop-module g l = record {
  same : g.S.ImageSource.held l.images ≡ g.S.ImageSource.held l.initial.images;
  later : g.S.ImageSource.faults l.initial.images ≤ g.S.ImageSource.faults l.images;
  within : l.module ≤ l.count;
  count : length l.found ≡ l.module;
  told : ForSome (g.S.ImageSource.held l.initial.images) (λ set. l.found ≡ map (found_in set) (range_with_len 0 l.module));
}
