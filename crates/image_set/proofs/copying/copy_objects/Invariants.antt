use Rattle.std.proofs.Common.{◌≡◌, ◌≤◌, Ok, vec_len}
use Rattle.std.specs.Vec.{vec_capacity}
use Rattle.image_set.specs.declared.fault.CopyStop.{CopyStop}
use Rattle.image_set.specs.Outline.{CopiesFront}
use Rattle.image_set.proofs.copying.copy_objects.Given as goal

abbrev pub invariant-loop-module : goal.invariant-loop-module
invariant-loop-module g l = record {
  spelling : 32768 ≤ vec_capacity l.buffers.spelling;
  room : vec_len l.buffers.room ≡ 262144;
  same : g.S.ImageSource.held l.images ≡ g.S.ImageSource.held l.fn.images;
  later_read : g.S.ImageSource.faults l.fn.images ≤ g.S.ImageSource.faults l.images;
  later_written : g.K.ImageSink.faults l.fn.out ≤ g.K.ImageSink.faults l.out;
  copied : CopiesFront {E = CopyStop} (g.P.Patch.patched l.fn.patch) (g.S.ImageSource.held l.fn.images) l.fn.left l.module (g.K.ImageSink.made l.fn.out) (g.K.ImageSink.made l.out)
      (g.K.ImageSink.kept l.fn.out) (g.K.ImageSink.kept l.out) (Ok (tt {0}));
}
