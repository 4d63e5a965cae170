use Rattle.std.proofs.Common.{◌∙◌, true, refl, get_or, take, arith}
use Rattle.std.proofs.lemmas.Result.{err_from_is_err_and}
use Rattle.cut_words.proofs.Making.{makes_none, makes_length}
use Rattle.arena_open.specs.Writes.{write_steps}
use Rattle.arena_open.specs.Moves.{move_writes, shifted}
use Rattle.arena_open.proofs.Written.{made_clear}
use Rattle.arena_open.proofs.Turns.{Turn, no_half, made_on, made_stop, made_end, copy_on, copy_end, move_inside}
use Rattle.arena_open.proofs.open.make_good.Goals as goal

pub loop-half-init : goal.loop-half-init
loop-half-init g c = record { made = makes_none (g.W.WordSpace.words c.args.space.now) c.args.fuse.now; copy = refl; same = refl }

pub write_word-requires-clause-inside : goal.write_word-requires-clause-inside
write_word-requires-clause-inside g c =
    let same = makes_length (g.W.WordSpace.words c.args.space.now) (g.W.WordSpace.words c.loop-half.space) c.args.fuse.now c.loop-half.fuse
    (write_steps (take c.loop-half.half-index (shifted c.args.at (move_writes c.args.layout.now c.args.words.now c.args.moves.now)))) true c.loop-half.invariant.made in
    let there = move_inside c.args.layout.now (get_or c.args.moves.now c.loop-half.half-index no_half) c.requires.layout
    (c.requires.moves c.loop-half.half-index no_half (omega arith)).sector in
    omega (arith, same, there, c.requires.space.inside, c.requires.copied, c.from.ensures)

pub write_word-requires-clause-settled : goal.write_word-requires-clause-settled
write_word-requires-clause-settled g c =
    made_clear (g.W.WordSpace.words c.args.space.now) (g.W.WordSpace.words c.loop-half.space) c.args.fuse.now c.loop-half.fuse
    (take c.loop-half.half-index (shifted c.args.at (move_writes c.args.layout.now c.args.words.now c.args.moves.now))) _ c.requires.space.settled c.loop-half.invariant.made

pub loop-half-preserved : goal.loop-half-preserved
loop-half-preserved g c =
    let t : Turn c.args.layout.now c.args.at c.args.words.now c.args.moves.now c.loop-half.half-index c.loop-half.words c.from.result c.normal.result c.with_entry-word.result =
    record { lt = omega arith; lba_is = c.from.ensures; entry_is = c.normal.ensures.word; same = c.loop-half.invariant.copy; read = c.with_entry-word.ensures.word } in
    record {
      made = made_on c.args.layout.now c.args.at c.args.words.now c.args.moves.now (g.W.WordSpace.words c.args.space.now) (g.W.WordSpace.words c.loop-half.space) (g.W.WordSpace.words c.write_word.new.words)
          c.args.fuse.now c.loop-half.fuse c.write_word.new.fuse c.loop-half.half-index c.loop-half.words c.from.result c.normal.result c.with_entry-word.result t
          c.loop-half.invariant.made c.in_ok-write_word.ensures.made;
      copy = copy_on c.args.layout.now c.args.at c.args.words.now c.args.moves.now c.loop-half.half-index c.loop-half.words c.from.result c.normal.result c.with_entry-word.result t;
      same = c.in_ok-write_word.ensures.beside ∙ c.loop-half.invariant.same;
    }

pub returns-in_err-write_word-clause-made : goal.returns-in_err-write_word-clause-made
returns-in_err-write_word-clause-made g c =
    let p = err_from_is_err_and c.from_residual.result c.from_residual.ensures.1 in
    let t : Turn c.args.layout.now c.args.at c.args.words.now c.args.moves.now c.loop-half.half-index c.loop-half.words c.from.result c.normal.result c.with_entry-word.result =
    record { lt = omega arith; lba_is = c.from.ensures; entry_is = c.normal.ensures.word; same = c.loop-half.invariant.copy; read = c.with_entry-word.ensures.word } in
    rw p.1 (made_stop c.args.layout.now c.args.at c.args.words.now c.args.moves.now (g.W.WordSpace.words c.args.space.now) (g.W.WordSpace.words c.loop-half.space) (g.W.WordSpace.words c.write_word.new.words)
    c.args.fuse.now c.loop-half.fuse c.write_word.new.fuse c.loop-half.half-index c.loop-half.words c.from.result c.normal.result c.with_entry-word.result t
    c.loop-half.invariant.made c.in_err-write_word.ensures.made)

pub returns-clause-made : goal.returns-clause-made
returns-clause-made g c =
    made_end c.args.layout.now c.args.at c.args.words.now c.args.moves.now (g.W.WordSpace.words c.args.space.now) (g.W.WordSpace.words c.loop-half.space) c.args.fuse.now c.loop-half.fuse c.loop-half.half-index (omega arith)
    c.loop-half.invariant.made

pub returns-clause-copy : goal.returns-clause-copy
returns-clause-copy g c = copy_end c.args.layout.now c.args.at c.args.words.now c.args.moves.now c.loop-half.half-index c.loop-half.words (omega arith) c.loop-half.invariant.copy
