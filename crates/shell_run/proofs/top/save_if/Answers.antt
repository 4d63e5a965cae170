use Rattle.shell_run.proofs.Comes.{set_saved, set_there}
use Rattle.shell_run.proofs.top.save_if.Goals as goal

pub save-requires-clause-there : goal.save-requires-clause-there
save-requires-clause-there g c = set_there (g.S.ImageSource.held c.args.images.now) c.args.saved c.in-Some.set c.in-Some.is c.requires.there

pub returns-in-Some-clause-saved : goal.returns-in-Some-clause-saved
returns-in-Some-clause-saved g c =
    set_saved (g.S.ImageSource.held c.args.images.now) c.args.saved c.in-Some.set (g.K.ImageSink.made c.args.out.now) (g.K.ImageSink.made c.save.new.out) (g.K.ImageSink.kept c.args.out.now) (g.K.ImageSink.kept c.save.new.out) c.in-Some.is c.save.result c.save.ensures.saved
