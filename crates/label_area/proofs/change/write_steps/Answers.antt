use Rattle.std.proofs.Common.{length}
use Rattle.std.specs.Prelude.{is_ok}
use Rattle.cut_words.specs.Runs.{run_steps}
use Rattle.cut_words.proofs.Making.{makes_both}
use Rattle.label_area.specs.Writing.{block_steps_from}
use Rattle.label_area.proofs.Pending.{run_leaves}
use Rattle.label_area.proofs.change.write_steps.Goals as goal

pub returns-clause-made : goal.returns-clause-made
returns-clause-made g c =
    makes_both (g.W.WordSpace.words c.args.words.now) (g.W.WordSpace.words c.write_from.new.words) (g.W.WordSpace.words c.write_block.new.words) c.args.fuse.now c.write_from.new.fuse c.write_block.new.fuse
    (run_steps c.args.label_at c.args.label.now) (block_steps_from c.args.block_at c.args.block.now) (is_ok c.write_block.result) c.in_ok-write_from.ensures.made c.write_block.ensures.made

pub write_block-requires-clause-settled : goal.write_block-requires-clause-settled
write_block-requires-clause-settled g c =
    run_leaves (g.W.WordSpace.words c.args.words.now) (g.W.WordSpace.words c.write_from.new.words) c.args.fuse.now c.write_from.new.fuse
    c.args.label_at c.args.label.now c.args.block_at (length c.args.block.now) c.in_ok-write_from.ensures.made c.requires.change.block_settled
