use Rattle.std.proofs.Common.{◌-◌, ◌≤◌, take, length, Ok}
use Rattle.std.specs.Vec.{vec_capacity}
use Rattle.nvd_media.specs.declared.traits.Failed.{Failed}
use Rattle.nvd_media.specs.Images.{with_more}
use Rattle.cut_words.specs.WordBytes.{bytes_of}
use Rattle.image_set.specs.Save.{Adds}
use Rattle.image_set.proofs.writing.write_words.Given as goal

abbrev pub invariant-loop-at : goal.invariant-loop-at
invariant-loop-at g l = record {
  within : l.at ≤ length l.words;
  room : 32768 ≤ vec_capacity l.room;
  adds : Adds {E = Failed} (g.K.ImageSink.made l.fn.out) (g.K.ImageSink.made l.out) (g.K.ImageSink.kept l.fn.out) (g.K.ImageSink.kept l.out)
      (g.K.ImageSink.faults l.fn.out) (g.K.ImageSink.faults l.out) (Ok l.at) (λ set. with_more set l.object (bytes_of (take l.at l.words)));
}

abbrev pub decreases-loop-at : goal.decreases-loop-at
decreases-loop-at g l = length l.words - l.at
