use Rattle.image_set.specs.declared.fault.CopyFault.TheVariants.{ReadFault, WriteFault}
use Rattle.shell_changes.proofs.Copies.{copied_saves, copied_unfinished}
use Rattle.shell_changes.proofs.answer.save_copied.Goals as goal

pub returns-clause-saved : goal.returns-clause-saved
returns-clause-saved g c =
    copied_saves (g.S.ImageSource.held c.args.images.now) c.args.set.now (g.K.ImageSink.made c.args.out.now) (g.K.ImageSink.made c.save.new.out) (g.K.ImageSink.kept c.args.out.now) (g.K.ImageSink.kept c.save.new.out)
    c.save.result c.save.ensures.copied

pub returns-clause-unread : goal.returns-clause-unread
returns-clause-unread g c = λ failed.
    copied_unfinished (g.S.ImageSource.held c.args.images.now) c.args.set.now (g.K.ImageSink.made c.args.out.now) (g.K.ImageSink.made c.save.new.out) (g.K.ImageSink.kept c.args.out.now) (g.K.ImageSink.kept c.save.new.out)
    c.save.result ReadFault c.save.ensures.copied failed

pub returns-clause-unwritten : goal.returns-clause-unwritten
returns-clause-unwritten g c = λ failed.
    copied_unfinished (g.S.ImageSource.held c.args.images.now) c.args.set.now (g.K.ImageSink.made c.args.out.now) (g.K.ImageSink.made c.save.new.out) (g.K.ImageSink.kept c.args.out.now) (g.K.ImageSink.kept c.save.new.out)
    c.save.result WriteFault c.save.ensures.copied failed
