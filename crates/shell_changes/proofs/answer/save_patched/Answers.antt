use Rattle.image_set.specs.declared.fault.CopyFault.TheVariants.{ReadFault, WriteFault}
use Rattle.namespace_bytes.specs.Patching.{all_patched}
use Rattle.shell_changes.proofs.Copies.{patched_saves, patched_unfinished}
use Rattle.shell_changes.proofs.answer.save_patched.Goals as goal

pub returns-clause-saved : goal.returns-clause-saved
returns-clause-saved g c =
    patched_saves (g.S.ImageSource.held c.args.images.now) c.args.set.now (g.K.ImageSink.made c.args.out.now) (g.K.ImageSink.made c.save_patched.new.out) (g.K.ImageSink.kept c.args.out.now) (g.K.ImageSink.kept c.save_patched.new.out)
    c.args.patch.now c.requires.whole c.save_patched.result c.save_patched.ensures.copied

pub returns-clause-unread : goal.returns-clause-unread
returns-clause-unread g c = λ failed.
    patched_unfinished (g.S.ImageSource.held c.args.images.now) c.args.set.now (g.K.ImageSink.made c.args.out.now) (g.K.ImageSink.made c.save_patched.new.out) (g.K.ImageSink.kept c.args.out.now) (g.K.ImageSink.kept c.save_patched.new.out)
    (all_patched c.args.patch.now) c.save_patched.result ReadFault c.save_patched.ensures.copied failed

pub returns-clause-unwritten : goal.returns-clause-unwritten
returns-clause-unwritten g c = λ failed.
    patched_unfinished (g.S.ImageSource.held c.args.images.now) c.args.set.now (g.K.ImageSink.made c.args.out.now) (g.K.ImageSink.made c.save_patched.new.out) (g.K.ImageSink.kept c.args.out.now) (g.K.ImageSink.kept c.save_patched.new.out)
    (all_patched c.args.patch.now) c.save_patched.result WriteFault c.save_patched.ensures.copied failed
