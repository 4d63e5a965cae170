use Rattle.std.proofs.Common.{◌+◌, ◌%◌, ◌^◌, ◌++◌, length, get_or, false, arith}
use Rattle.std.specs.Prelude.{is_ok}
use Rattle.std.proofs.lemmas.Result.{err_from_is_err_and}
use Rattle.cut_words.specs.Groups.{written}
use Rattle.label_area.specs.Writing.{others_steps}
use Rattle.cut_words.proofs.Making.{makes_both, makes_cut}
use Rattle.label_area.proofs.Pending.{word_leaves, others_leave}
use Rattle.label_area.proofs.change.write_block.Goals as goal

pub returns-in_err-write_word-clause-made : goal.returns-in_err-write_word-clause-made
returns-in_err-write_word-clause-made g c =
    let p = err_from_is_err_and c.from_residual.result c.from_residual.ensures.1 in
    let base = c.args.base in
    let block = c.args.block.now in
    rw p.1 (makes_cut (g.W.WordSpace.words c.args.words.now) (g.W.WordSpace.words c.write_word.new.words) c.args.fuse.now c.write_word.new.fuse
    (written (base + 2) (get_or block 2 0 % 2 ^ 32)) (others_steps base block ++ written (base + 2) (get_or block 2 0)) c.in_err-write_word.ensures.made)

pub returns-in_err-write_others-clause-made : goal.returns-in_err-write_others-clause-made
returns-in_err-write_others-clause-made g c =
    let p = err_from_is_err_and c.from_residual-in_err-write_others.result c.from_residual-in_err-write_others.ensures.1 in
    let base = c.args.base in
    let block = c.args.block.now in
    rw p.1 (makes_both (g.W.WordSpace.words c.args.words.now) (g.W.WordSpace.words c.write_word.new.words) (g.W.WordSpace.words c.write_others.new.words) c.args.fuse.now c.write_word.new.fuse c.write_others.new.fuse
    (written (base + 2) (get_or block 2 0 % 2 ^ 32)) (others_steps base block ++ written (base + 2) (get_or block 2 0)) false c.in_ok-write_word.ensures.made
    (makes_cut (g.W.WordSpace.words c.write_word.new.words) (g.W.WordSpace.words c.write_others.new.words) c.write_word.new.fuse c.write_others.new.fuse
    (others_steps base block) (written (base + 2) (get_or block 2 0)) c.in_err-write_others.ensures.made))

pub returns-clause-made : goal.returns-clause-made
returns-clause-made g c =
    let base = c.args.base in
    let block = c.args.block.now in
    makes_both (g.W.WordSpace.words c.args.words.now) (g.W.WordSpace.words c.write_word.new.words) (g.W.WordSpace.words c.write_word-2.new.words) c.args.fuse.now c.write_word.new.fuse c.write_word-2.new.fuse
    (written (base + 2) (get_or block 2 0 % 2 ^ 32)) (others_steps base block ++ written (base + 2) (get_or block 2 0)) (is_ok c.write_word-2.result) c.in_ok-write_word.ensures.made
    (makes_both (g.W.WordSpace.words c.write_word.new.words) (g.W.WordSpace.words c.write_others.new.words) (g.W.WordSpace.words c.write_word-2.new.words) c.write_word.new.fuse c.write_others.new.fuse c.write_word-2.new.fuse
    (others_steps base block) (written (base + 2) (get_or block 2 0)) (is_ok c.write_word-2.result) c.in_ok-write_others.ensures.made c.write_word-2.ensures.made)

pub write_others-requires-clause-settled : goal.write_others-requires-clause-settled
write_others-requires-clause-settled g c =
    word_leaves (g.W.WordSpace.words c.args.words.now) (g.W.WordSpace.words c.write_word.new.words) c.args.fuse.now c.write_word.new.fuse
    (c.args.base + 2) (get_or c.args.block.now 2 0 % 2 ^ 32) c.args.base (length c.args.block.now) c.in_ok-write_word.ensures.made c.requires.settled

pub write_word-requires-2-clause-settled : goal.write_word-requires-2-clause-settled
write_word-requires-2-clause-settled g c =
    others_leave (g.W.WordSpace.words c.write_word.new.words) (g.W.WordSpace.words c.write_others.new.words) c.write_word.new.fuse c.write_others.new.fuse c.args.base c.args.block.now c.in_ok-write_others.ensures.made
    (word_leaves (g.W.WordSpace.words c.args.words.now) (g.W.WordSpace.words c.write_word.new.words) c.args.fuse.now c.write_word.new.fuse
    (c.args.base + 2) (get_or c.args.block.now 2 0 % 2 ^ 32) c.args.base (length c.args.block.now) c.in_ok-write_word.ensures.made c.requires.settled
    (c.args.base + 2) (omega arith) (omega (arith, c.requires.enough)))
