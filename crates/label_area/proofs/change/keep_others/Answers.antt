use Rattle.std.proofs.Common.{◌+◌, ◌-◌}
use Rattle.std.specs.Prelude.{is_ok}
use Rattle.std.proofs.lemmas.Result.{err_from_is_err_and}
use Rattle.cut_words.specs.Runs.{keeps_from}
use Rattle.cut_words.proofs.Making.{makes_both, makes_cut}
use Rattle.label_area.proofs.change.keep_others.Goals as goal

pub returns-clause-made : goal.returns-clause-made
returns-clause-made g c =
    makes_both (g.W.WordSpace.words c.args.words.now) (g.W.WordSpace.words c.keep_from.new.words) (g.W.WordSpace.words c.keep_from-2.new.words) c.args.fuse.now c.keep_from.new.fuse c.keep_from-2.new.fuse
    (keeps_from c.args.base 2) (keeps_from (c.args.base + 3) (c.args.count - 3)) (is_ok c.keep_from-2.result) c.in_ok-keep_from.ensures.made c.keep_from-2.ensures.made

pub returns-in_err-keep_from-clause-made : goal.returns-in_err-keep_from-clause-made
returns-in_err-keep_from-clause-made g c =
    let p = err_from_is_err_and c.from_residual.result c.from_residual.ensures.1 in
    rw p.1 (makes_cut (g.W.WordSpace.words c.args.words.now) (g.W.WordSpace.words c.keep_from.new.words) c.args.fuse.now c.keep_from.new.fuse
    (keeps_from c.args.base 2) (keeps_from (c.args.base + 3) (c.args.count - 3)) c.in_err-keep_from.ensures.made)
