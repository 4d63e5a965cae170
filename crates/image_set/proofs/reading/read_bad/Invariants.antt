use Rattle.std.proofs.Common.{◌≡◌, ◌≤◌, length, map}
use Rattle.std.specs.Option.{ForSome}
use Rattle.std.specs.List.{All, range_with_len}
use Rattle.nvd_media.specs.declared.object.Object.TheVariants as object
use Rattle.image_set.specs.Sound.{IsBadRanges}
use Rattle.image_set.proofs.reading.read_bad.Given as goal

abbrev pub invariant-loop-module : goal.invariant-loop-module
invariant-loop-module g l = record {
  same : g.S.ImageSource.held l.images ≡ g.S.ImageSource.held l.initial.images;
  later : g.S.ImageSource.faults l.initial.images ≤ g.S.ImageSource.faults l.images;
  within : l.module ≤ length l.sizes;
  count : length l.bad ≡ l.module;
  sound : All IsBadRanges l.bad;
  told : ForSome (g.S.ImageSource.held l.initial.images) (λ set. l.bad ≡ map (λ m. set (object.BadRanges m)) (range_with_len 0 l.module));
}
