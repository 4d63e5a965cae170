use Rattle.label_area.proofs.Opened.{area_size}
use Rattle.label_area.proofs.read.shown_by_words.Goals as goal

pub shown_in-requires : goal.shown_in-requires
shown_in-requires c = rw (c.deref.ensures.value, c.in-Ok.ensures) (area_size c.args.words.now.kept c.requires.size)
