use Rattle.label_area.proofs.Opened.{area_size}
use Rattle.label_area.proofs.read.block_of_words.Goals as goal

pub current_block-requires : goal.current_block-requires
current_block-requires c = rw (c.deref.ensures.value, c.in-Ok.ensures) (area_size c.args.words.now.kept c.requires.size)
