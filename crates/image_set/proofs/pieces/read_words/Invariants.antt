use Rattle.std.proofs.Common.{◌≡◌, ◌≤◌, ◌-◌, ◌*◌, ◌%◌, take, vec_len}
use Rattle.std.specs.Option.{ForSome}
use Rattle.nvd_media.specs.Images.{bytes_of as bytes_in}
use Rattle.cut_words.specs.WordBytes.{bytes_of}
use Rattle.image_set.proofs.pieces.read_words.Given as goal

abbrev pub invariant-loop-at : goal.invariant-loop-at
invariant-loop-at g l = record {
  same : g.S.ImageSource.held l.images ≡ g.S.ImageSource.held l.initial.images;
  later : g.S.ImageSource.faults l.initial.images ≤ g.S.ImageSource.faults l.images;
  room : vec_len l.room ≡ 262144;
  whole : l.at % 8 ≡ 0;
  within : l.at ≤ l.bytes;
  count : 8 * vec_len l.words ≡ l.at;
  told : ForSome (g.S.ImageSource.held l.initial.images) (λ set. bytes_of l.words.items ≡ take l.at (bytes_in set l.object));
}

abbrev pub decreases-loop-at : goal.decreases-loop-at
decreases-loop-at g l = l.bytes - l.at
