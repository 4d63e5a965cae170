use Rattle.image_set.proofs.Fronts.{whole_told, whole_kept}
use Rattle.image_set.proofs.saving.save.Goals as goal

pub returns-clause-told : goal.returns-clause-told
returns-clause-told g c =
    whole_told (g.K.ImageSink.made c.args.out.now) (g.K.ImageSink.made c.write_objects.new.out) (g.K.ImageSink.made c.finish.new.self) c.args.nfit.now c.args.images.now c.args.bad.now
    c.requires.modules c.in_ok-write_objects.ensures.told c.in_ok-finish.ensures.told

pub returns-clause-kept : goal.returns-clause-kept
returns-clause-kept g c =
    whole_kept (g.K.ImageSink.kept c.args.out.now) (g.K.ImageSink.kept c.write_objects.new.out) (g.K.ImageSink.kept c.finish.new.self) c.args.nfit.now c.args.images.now c.args.bad.now
    c.requires.modules c.in_ok-write_objects.ensures.kept c.in_ok-finish.ensures.kept
