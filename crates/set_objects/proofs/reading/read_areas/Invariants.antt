use Rattle.std.proofs.Common.{◌≡◌, ◌≤◌, length, map}
use Rattle.std.specs.Option.{ForSome, option_map}
use Rattle.std.specs.List.{All, range_with_len}
use Rattle.image_set.specs.Load.{bytes_kept}
use Rattle.image_set.specs.Sound.{IsArea}
use Rattle.set_objects.specs.Objects.{labels_there}
use Rattle.set_objects.proofs.reading.read_areas.Given as goal

abbrev pub invariant-loop-module : goal.invariant-loop-module
invariant-loop-module g l = record {
  same : g.S.ImageSource.held l.images ≡ g.S.ImageSource.held l.initial.images;
  later : g.S.ImageSource.faults l.initial.images ≤ g.S.ImageSource.faults l.images;
  within : l.module ≤ length l.found;
  count : length l.areas ≡ l.module;
  sound : All IsArea l.areas;
  told : ForSome (g.S.ImageSource.held l.initial.images) (λ set. map (option_map bytes_kept) l.areas ≡ map (labels_there set) (range_with_len 0 l.module));
}
