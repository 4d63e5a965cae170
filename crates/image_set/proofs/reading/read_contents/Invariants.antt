use Rattle.std.proofs.Common.{◌≡◌, ◌≤◌, length, map, take, vec_len}
use Rattle.std.specs.Option.{ForSome}
use Rattle.std.specs.List.{All, range_with_len}
use Rattle.nvd_media.specs.declared.object.Object.TheVariants as object
use Rattle.nvd_media.specs.Images.{bytes_of}
use Rattle.image_set.specs.Load.{bytes_kept}
use Rattle.image_set.specs.Sound.{size_of, IsContents}
use Rattle.image_set.proofs.reading.read_contents.Given as goal

abbrev pub invariant-loop-module : goal.invariant-loop-module
invariant-loop-module g l = record {
  same : g.S.ImageSource.held l.images ≡ g.S.ImageSource.held l.initial.images;
  later : g.S.ImageSource.faults l.initial.images ≤ g.S.ImageSource.faults l.images;
  within : l.module ≤ length l.sizes;
  room : vec_len l.room ≡ 262144;
  sizes : map size_of l.contents ≡ take l.module l.sizes;
  sound : All IsContents l.contents;
  told : ForSome (g.S.ImageSource.held l.initial.images) (λ set. map bytes_kept l.contents ≡ map (λ m. bytes_of set (object.Contents m)) (range_with_len 0 l.module));
}
