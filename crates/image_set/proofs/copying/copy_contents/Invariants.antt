use Rattle.std.proofs.Common.{◌≡◌, ◌-◌, ◌≤◌, Ok, vec_len}
use Rattle.image_set.specs.declared.fault.CopyStop.{CopyStop}
use Rattle.image_set.specs.Outline.{CopiesRow}
use Rattle.image_set.proofs.copying.copy_contents.Given as goal

abbrev pub invariant-loop-at : goal.invariant-loop-at
invariant-loop-at g l = record {
  within : l.at ≤ l.contents.bytes;
  room : vec_len l.room ≡ 262144;
  same : g.S.ImageSource.held l.images ≡ g.S.ImageSource.held l.fn.images;
  later_read : g.S.ImageSource.faults l.fn.images ≤ g.S.ImageSource.faults l.images;
  later_written : g.K.ImageSink.faults l.fn.out ≤ g.K.ImageSink.faults l.out;
  copied : CopiesRow {E = CopyStop} (g.P.Patch.patched l.fn.patch) (g.S.ImageSource.held l.fn.images) l.contents.«module» 0 l.at (g.K.ImageSink.made l.fn.out) (g.K.ImageSink.made l.out)
      (g.K.ImageSink.kept l.fn.out) (g.K.ImageSink.kept l.out) (Ok l.at);
}

abbrev pub decreases-loop-at : goal.decreases-loop-at
decreases-loop-at g l = l.contents.bytes - l.at
