use Rattle.std.proofs.Common.{length}
use Rattle.std.specs.Prelude.{is_ok}
use Rattle.cut_words.specs.Runs.{stores_from, keeps_from}
use Rattle.cut_words.proofs.Making.{makes_both}
use Rattle.cut_words.proofs.runs.write_from.Goals as goal

pub returns-clause-made : goal.returns-clause-made
returns-clause-made g c =
    makes_both (g.W.WordSpace.words c.args.words.now) (g.W.WordSpace.words c.store_from.new.words) (g.W.WordSpace.words c.keep_from.new.words) c.args.fuse.now c.store_from.new.fuse c.keep_from.new.fuse
    (stores_from c.args.base c.args.values.now) (keeps_from c.args.base (length c.args.values.now)) (is_ok c.keep_from.result) c.in_ok-store_from.ensures.made c.keep_from.ensures.made
