use Rattle.std.proofs.Common.{◌≤◌, Ok}
use Rattle.std.specs.Vec.{vec_capacity}
use Rattle.nvd_media.specs.declared.traits.Failed.{Failed}
use Rattle.image_set.specs.Save.{front_of, set_of}
use Rattle.image_set.proofs.Fronts.{Reaches}
use Rattle.image_set.proofs.saving.write_objects.Given as goal

abbrev pub invariant-loop-module : goal.invariant-loop-module
invariant-loop-module g l = record {
  room : 32768 ≤ vec_capacity l.room;
  reaches : Reaches {E = Failed} (g.K.ImageSink.made l.fn.out) (g.K.ImageSink.made l.out) (g.K.ImageSink.kept l.fn.out) (g.K.ImageSink.kept l.out)
      (g.K.ImageSink.faults l.fn.out) (g.K.ImageSink.faults l.out) (Ok (tt {0})) (front_of (set_of l.fn.nfit l.fn.images l.fn.bad) l.module);
}
