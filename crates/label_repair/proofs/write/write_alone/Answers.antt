use Rattle.std.proofs.Common.{◌/◌, length, take, sym, arith}
use Rattle.std.specs.Prelude.{is_ok}
use Rattle.std.proofs.lemmas.List.{length-take-le}
use Rattle.label_area.proofs.Steps.{few_words}
use Rattle.label_repair.proofs.Alone.{written_alone}
use Rattle.label_repair.proofs.write.write_alone.Goals as goal

pub block_words-spelled-requires-clause-small : goal.block_words-spelled-requires-clause-small
block_words-spelled-requires-clause-small c = few_words (length c.args.words.now.kept) c.args.block.now c.requires.valid

pub slice_bounds-spelled-end : goal.slice_bounds-spelled-end
slice_bounds-spelled-end c = omega (arith, few_words (length c.args.words.now.kept) c.args.block.now c.requires.valid)

pub slice_bounds-spelled-end-2 : goal.slice_bounds-spelled-end-2
slice_bounds-spelled-end-2 c =
    sym (length-take-le (c.args.block.now.size / 8) c.block_words-spelled.result
    (omega (arith, few_words (length c.args.words.now.kept) c.args.block.now c.requires.valid)))

pub returns : goal.returns
returns c =
    written_alone c.args.words.now c.write_block-all.new.words c.none-fuse.result c.write_block-all.new.fuse c.args.block.now c.block_at.result
    (take (c.args.block.now.size / 8) c.block_words-spelled.result) (is_ok c.write_block-all.result) c.requires c.none-fuse.ensures c.block_at.ensures c.block_words-spelled.ensures
    c.write_block-all.ensures.made
