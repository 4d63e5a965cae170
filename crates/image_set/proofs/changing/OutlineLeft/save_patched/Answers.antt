use Rattle.image_set.specs.declared.fault.CopyStop.{CopyStop}
use Rattle.image_set.proofs.Copied.{set_copied}
use Rattle.image_set.proofs.changing.OutlineLeft.save_patched.Goals as goal

pub returns-clause-copied : goal.returns-clause-copied
returns-clause-copied g c =
    set_copied {E = CopyStop} (g.P.Patch.patched c.args.patch.now) (g.S.ImageSource.held c.args.images.now) c.args.self.now (g.K.ImageSink.made c.args.out.now) (g.K.ImageSink.made c.copy_objects.new.out) (g.K.ImageSink.made c.finish.new.self)
    (g.K.ImageSink.kept c.args.out.now) (g.K.ImageSink.kept c.copy_objects.new.out) (g.K.ImageSink.kept c.finish.new.self) (tt {0}) (tt {0}) c.requires.copyable
    c.in_ok-copy_objects.ensures.copied c.in_ok-finish.ensures.told c.in_ok-finish.ensures.kept
