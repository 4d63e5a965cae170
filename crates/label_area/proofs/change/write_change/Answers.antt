use Rattle.std.specs.Prelude.{is_ok}
use Rattle.label_area.proofs.Made.{made_whole, made_settled}
use Rattle.label_area.proofs.change.write_change.Goals as goal

pub returns-clause-whole : goal.returns-clause-whole
returns-clause-whole g c =
    made_whole (g.W.WordSpace.words c.args.words.now) (g.W.WordSpace.words c.write_steps.new.words) c.args.fuse.now c.write_steps.new.fuse
    c.args.label_at c.args.label.now c.args.block_at c.args.block.now (is_ok c.write_steps.result) c.write_steps.ensures.made

pub returns-clause-settles : goal.returns-clause-settles
returns-clause-settles g c =
    made_settled (g.W.WordSpace.words c.args.words.now) (g.W.WordSpace.words c.write_steps.new.words) c.args.fuse.now c.write_steps.new.fuse
    c.args.label_at c.args.label.now c.args.block_at c.args.block.now (is_ok c.write_steps.result) c.write_steps.ensures.made
