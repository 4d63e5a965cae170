use Rattle.std.proofs.Common.{◌/◌, List, length, take, sym, subst, arith}
use Rattle.std.specs.Prelude.{is_ok}
use Rattle.std.proofs.lemmas.List.{length-take-le}
use Rattle.cut_words.specs.Words.{Step}
use Rattle.cut_words.specs.Fuses.{Makes}
use Rattle.label_area.proofs.Steps.{few_words, steps_alone, steps_both}
use Rattle.label_area.proofs.change.write_spelled.Goals as goal

pub block_words-spelled-requires-clause-small : goal.block_words-spelled-requires-clause-small
block_words-spelled-requires-clause-small c = few_words (length c.args.words.now.kept) c.args.block.now c.requires.valid

pub slice_bounds-spelled-end : goal.slice_bounds-spelled-end
slice_bounds-spelled-end c = omega (arith, few_words (length c.args.words.now.kept) c.args.block.now c.requires.valid)

pub slice_bounds-spelled-end-2 : goal.slice_bounds-spelled-end-2
slice_bounds-spelled-end-2 c =
    sym (length-take-le (c.args.block.now.size / 8) c.block_words-spelled.result
    (omega (arith, few_words (length c.args.words.now.kept) c.args.block.now c.requires.valid)))

pub label_words-requires : goal.label_words-requires
label_words-requires c = c.requires.sound c.in-Some.label c.in-Some.is

pub returns-in-None-clause-made : goal.returns-in-None-clause-made
returns-in-None-clause-made c =
    subst (λ (steps : List Step). Makes c.args.words.now c.write_change.new.words c.args.fuse.now c.write_change.new.fuse steps (is_ok c.write_change.result))
    (steps_alone c.args.words.now c.args.block.now c.args.put.now c.requires c.in-None.is c.block_at-at.result (take (c.args.block.now.size / 8) c.block_words-spelled.result)
    c.block_at-at.ensures c.block_words-spelled.ensures) c.write_change.ensures.made

pub returns-in-Some-clause-made : goal.returns-in-Some-clause-made
returns-in-Some-clause-made c =
    subst (λ (steps : List Step). Makes c.args.words.now c.write_change-in-Some.new.words c.args.fuse.now c.write_change-in-Some.new.fuse steps (is_ok c.write_change-in-Some.result))
    (steps_both c.args.words.now c.args.block.now c.args.put.now c.requires c.in-Some.label c.in-Some.is c.label_words.ensures.writable _ (omega (arith, c.from.ensures))
    c.label_words.result c.label_words.ensures.spelled c.block_at-at.result (take (c.args.block.now.size / 8) c.block_words-spelled.result)
    c.block_at-at.ensures c.block_words-spelled.ensures) c.write_change-in-Some.ensures.made
