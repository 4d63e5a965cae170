use Rattle.std.proofs.Common.{◌+◌, [], ◌∷◌, true, false, ◌∙◌, arith}
use Rattle.cut_words.specs.Words.{keep}
use Rattle.cut_words.proofs.Making.{keeps_on, keeps_stop, keeps_end, makes_length}
use Rattle.std.proofs.lemmas.Result.{err_from_is_err_and}
use Rattle.cut_words.proofs.runs.keep_from.Goals as goal

pub loop-place-preserved : goal.loop-place-preserved
loop-place-preserved g c =
    let now = g.W.WordSpace.words c.loop-place.words in
    let new = g.W.WordSpace.words c.keep.new.self in
    let same = makes_length now new c.loop-place.fuse c.keep.new.fuse (keep c.loop-place.place ∷ []) true c.in_ok-keep.ensures.made in
    record {
      beside = c.in_ok-keep.ensures.beside ∙ c.loop-place.invariant.beside;
      inside = omega (arith, same, c.loop-place.invariant.inside);
      small = omega (arith, same, c.loop-place.invariant.small);
      same = same ∙ c.loop-place.invariant.same;
      within = omega arith;
      on = λ w f made rest. c.loop-place.invariant.on w f made
          (keeps_on now new w c.loop-place.fuse c.keep.new.fuse f c.loop-place.place (c.args.base + c.args.count) made (omega arith) c.in_ok-keep.ensures.made rest);
    }

pub returns-in_err-keep-clause-made : goal.returns-in_err-keep-clause-made
returns-in_err-keep-clause-made g c =
    let now = g.W.WordSpace.words c.loop-place.words in
    let new = g.W.WordSpace.words c.keep.new.self in
    let p = err_from_is_err_and c.from_residual.result c.from_residual.ensures.1 in
    (rw p.1 (c.loop-place.invariant.on new c.keep.new.fuse false
    (keeps_stop now new c.loop-place.fuse c.keep.new.fuse c.loop-place.place (c.args.base + c.args.count) (omega arith) c.in_err-keep.ensures.made)))

pub returns-in_err-keep-clause-count : goal.returns-in_err-keep-clause-count
returns-in_err-keep-clause-count g c =
    makes_length (g.W.WordSpace.words c.loop-place.words) (g.W.WordSpace.words c.keep.new.self) c.loop-place.fuse c.keep.new.fuse (keep c.loop-place.place ∷ []) false c.in_err-keep.ensures.made
    ∙ c.loop-place.invariant.same

pub returns-clause-made : goal.returns-clause-made
returns-clause-made g c =
    let now = g.W.WordSpace.words c.loop-place.words in
    (c.loop-place.invariant.on now c.loop-place.fuse true (keeps_end now c.loop-place.fuse c.loop-place.place (c.args.base + c.args.count) (omega arith)))
