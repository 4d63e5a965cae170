use Rattle.std.proofs.Common.{◌+◌, ◌∙◌, true, take, refl, arith}
use Rattle.std.proofs.lemmas.Result.{err_from_is_err_and}
use Rattle.cut_words.proofs.Making.{makes_none, makes_length}
use Rattle.arena_open.specs.Writes.{run_at, write_steps}
use Rattle.arena_open.proofs.Written.{made_clear, made_is_settled, run_on, run_stop, run_end}
use Rattle.arena_open.proofs.area.write_area.Goals as goal

pub loop-i-init : goal.loop-i-init
loop-i-init g c = record { made = makes_none (g.W.WordSpace.words c.args.space.now) c.args.fuse.now; same = refl }

pub write_word-requires-clause-inside : goal.write_word-requires-clause-inside
write_word-requires-clause-inside g c =
    let same = makes_length (g.W.WordSpace.words c.args.space.now) (g.W.WordSpace.words c.loop-i.space) c.args.fuse.now c.loop-i.fuse
    (write_steps (take c.loop-i.i (run_at c.args.base (g.A.AreaWords.values c.args.area.now)))) true c.loop-i.invariant.made in
    omega (arith, same, c.requires.inside, c.count-i-end.ensures, c.loop-i-test.true)

pub write_word-requires-clause-settled : goal.write_word-requires-clause-settled
write_word-requires-clause-settled g c =
    made_clear (g.W.WordSpace.words c.args.space.now) (g.W.WordSpace.words c.loop-i.space) c.args.fuse.now c.loop-i.fuse
    (take c.loop-i.i (run_at c.args.base (g.A.AreaWords.values c.args.area.now))) (c.args.base + c.loop-i.i) c.requires.settled c.loop-i.invariant.made

pub returns-in_err-write_word-clause-made : goal.returns-in_err-write_word-clause-made
returns-in_err-write_word-clause-made g c =
    let p = err_from_is_err_and c.from_residual.result c.from_residual.ensures.1 in
    rw p.1 (run_stop (g.W.WordSpace.words c.args.space.now) (g.W.WordSpace.words c.loop-i.space) (g.W.WordSpace.words c.write_word.new.words)
    c.args.fuse.now c.loop-i.fuse c.write_word.new.fuse c.args.base (g.A.AreaWords.values c.args.area.now) c.loop-i.i c.word.result
    (omega (arith, c.count-i-end.ensures, c.loop-i-test.true)) c.word.ensures c.loop-i.invariant.made c.in_err-write_word.ensures.made)

pub returns-in_err-write_word-clause-count : goal.returns-in_err-write_word-clause-count
returns-in_err-write_word-clause-count g c =
    c.in_err-write_word.ensures.count
    ∙ makes_length (g.W.WordSpace.words c.args.space.now) (g.W.WordSpace.words c.loop-i.space) c.args.fuse.now c.loop-i.fuse
    (write_steps (take c.loop-i.i (run_at c.args.base (g.A.AreaWords.values c.args.area.now)))) true c.loop-i.invariant.made

pub loop-i-preserved : goal.loop-i-preserved
loop-i-preserved g c = record {
  made = run_on (g.W.WordSpace.words c.args.space.now) (g.W.WordSpace.words c.loop-i.space) (g.W.WordSpace.words c.write_word.new.words)
      c.args.fuse.now c.loop-i.fuse c.write_word.new.fuse c.args.base (g.A.AreaWords.values c.args.area.now) c.loop-i.i c.word.result true
      (omega (arith, c.count-i-end.ensures, c.loop-i-test.true)) c.word.ensures c.loop-i.invariant.made c.in_ok-write_word.ensures.made;
  same = c.in_ok-write_word.ensures.beside ∙ c.loop-i.invariant.same;
}

pub returns-clause-made : goal.returns-clause-made
returns-clause-made g c =
    run_end (g.W.WordSpace.words c.args.space.now) (g.W.WordSpace.words c.loop-i.space) c.args.fuse.now c.loop-i.fuse c.args.base (g.A.AreaWords.values c.args.area.now) c.loop-i.i
    (omega (arith, c.count-i-end.ensures, c.loop-i-test.false)) c.loop-i.invariant.made

pub returns-clause-count : goal.returns-clause-count
returns-clause-count g c =
    makes_length (g.W.WordSpace.words c.args.space.now) (g.W.WordSpace.words c.loop-i.space) c.args.fuse.now c.loop-i.fuse
    (write_steps (take c.loop-i.i (run_at c.args.base (g.A.AreaWords.values c.args.area.now)))) true c.loop-i.invariant.made

pub returns-clause-settles : goal.returns-clause-settles
returns-clause-settles g c =
    made_is_settled (g.W.WordSpace.words c.args.space.now) (g.W.WordSpace.words c.loop-i.space) c.args.fuse.now c.loop-i.fuse
    (take c.loop-i.i (run_at c.args.base (g.A.AreaWords.values c.args.area.now))) c.requires.settled c.loop-i.invariant.made
