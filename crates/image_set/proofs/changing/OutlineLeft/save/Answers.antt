use Rattle.image_set.proofs.Copied.{set_plain}
use Rattle.image_set.proofs.changing.OutlineLeft.save.Goals as goal

pub returns-clause-copied : goal.returns-clause-copied
returns-clause-copied g c =
    set_plain (g.S.ImageSource.held c.args.images.now) c.args.self.now (g.K.ImageSink.made c.args.out.now) (g.K.ImageSink.made c.save_patched.new.out)
    (g.K.ImageSink.kept c.args.out.now) (g.K.ImageSink.kept c.save_patched.new.out) c.save_patched.result c.save_patched.ensures.copied
