use Rattle.std.proofs.Common.{length}
use Rattle.std.specs.Prelude.{is_ok}
use Rattle.label_area.specs.Writing.{others_stores, others_keeps}
use Rattle.cut_words.proofs.Making.{makes_both}
use Rattle.label_area.proofs.change.write_others.Goals as goal

pub returns-clause-made : goal.returns-clause-made
returns-clause-made g c =
    makes_both (g.W.WordSpace.words c.args.words.now) (g.W.WordSpace.words c.store_others.new.words) (g.W.WordSpace.words c.keep_others.new.words) c.args.fuse.now c.store_others.new.fuse c.keep_others.new.fuse
    (others_stores c.args.base c.args.block.now) (others_keeps c.args.base (length c.args.block.now)) (is_ok c.keep_others.result) c.in_ok-store_others.ensures.made c.keep_others.ensures.made
