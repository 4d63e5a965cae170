use Rattle.std.proofs.Common.{List, Bool, true, false, None, sym, ap, subst}
use Rattle.std.specs.Prelude.{is_ok}
use Rattle.std.proofs.lemmas.Result.{err_from_is_err_and}
use Rattle.cut_words.specs.Words.{Words}
use Rattle.cut_words.specs.Fuses.{Makes}
use Rattle.cut_words.proofs.Making.{makes_cut}
use Rattle.label_index.specs.declared.index.IndexBlock.{IndexBlock}
use Rattle.label_index.specs.declared.index.Side.TheVariants as side
use Rattle.label_area.specs.Change.{block_steps}
use Rattle.label_area.specs.Writing.{CanWrite, writing_steps}
use Rattle.label_area.specs.Init.{empty_block, half_words, full_words}
use Rattle.label_area.proofs.Blocks.{can_write_one, can_write_two, first_done, both_made}
use Rattle.label_area.proofs.initial.write_both.Goals as goal

pub write_spelled-requires : goal.write_spelled-requires
write_spelled-requires c =
    let b = c.args.block.now in
    subst (λ (b : IndexBlock). CanWrite c.args.words.now b None) (sym c.requires.first)
    (subst (λ (w : Words). CanWrite w (empty_block c.args.block.now.size c.args.block.now.slots side.One 2) None) (sym c.requires.settled)
    (can_write_one c.args.words.now.kept c.args.block.now.size c.args.block.now.slots c.requires.init))

pub write_spelled-requires-2 : goal.write_spelled-requires-2
write_spelled-requires-2 c =
    let w = c.args.words.now in
    let first = subst (λ (b : IndexBlock). Makes c.args.words.now c.write_spelled.new.words c.args.fuse.now c.write_spelled.new.fuse (writing_steps c.args.words.now.kept b None) true) c.requires.first c.in_ok-write_spelled.ensures.made in
    let half = first_done c.args.words.now.kept c.args.block.now.size c.args.block.now.slots c.requires.init c.args.words.now c.write_spelled.new.words c.args.fuse.now c.write_spelled.new.fuse c.requires.settled first in
    let free = ap (λ (b : IndexBlock). b.free) c.requires.first in
    rw (free, half) (can_write_two c.args.words.now.kept c.args.block.now.size c.args.block.now.slots c.requires.init)

pub returns-in_err-write_spelled-clause-made : goal.returns-in_err-write_spelled-clause-made
returns-in_err-write_spelled-clause-made c =
    let p = err_from_is_err_and c.from_residual.result c.from_residual.ensures.1 in
    let first = subst (λ (b : IndexBlock). Makes c.args.words.now c.write_spelled.new.words c.args.fuse.now c.write_spelled.new.fuse (writing_steps c.args.words.now.kept b None) false) c.requires.first c.in_err-write_spelled.ensures.made in
    rw p.1 (makes_cut c.args.words.now c.write_spelled.new.words c.args.fuse.now c.write_spelled.new.fuse
    (block_steps (half_words c.args.words.now.kept c.args.block.now.size c.args.block.now.slots) c.args.block.now.size side.One)
    (block_steps (full_words c.args.words.now.kept c.args.block.now.size c.args.block.now.slots) c.args.block.now.size side.Zero) first)

pub returns-clause-made : goal.returns-clause-made
returns-clause-made c =
    let first = subst (λ (b : IndexBlock). Makes c.args.words.now c.write_spelled.new.words c.args.fuse.now c.write_spelled.new.fuse (writing_steps c.args.words.now.kept b None) true) c.requires.first c.in_ok-write_spelled.ensures.made in
    let half = first_done c.args.words.now.kept c.args.block.now.size c.args.block.now.slots c.requires.init c.args.words.now c.write_spelled.new.words c.args.fuse.now c.write_spelled.new.fuse c.requires.settled first in
    let free = ap (λ (b : IndexBlock). b.free) c.requires.first in
    both_made c.args.words.now.kept c.args.block.now.size c.args.block.now.slots c.args.words.now c.write_spelled.new.words c.write_spelled-2.new.words
    c.args.fuse.now c.write_spelled.new.fuse c.write_spelled-2.new.fuse (is_ok c.write_spelled-2.result) half first
    (subst (λ (free : List Bool). Makes c.write_spelled.new.words c.write_spelled-2.new.words c.write_spelled.new.fuse c.write_spelled-2.new.fuse
    (writing_steps c.write_spelled.new.words.kept (record { side = side.Zero; seq = 3; size = c.args.block.now.size; slots = c.args.block.now.slots; free = free }) None) (is_ok c.write_spelled-2.result)) free c.write_spelled-2.ensures.made)
