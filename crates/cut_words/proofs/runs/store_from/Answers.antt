use Rattle.std.proofs.Common.{get_or, [], ◌∷◌, true, false, ◌∙◌, arith}
use Rattle.cut_words.specs.Words.{store}
use Rattle.cut_words.proofs.Making.{stores_on, stores_stop, stores_end, store_on, makes_length}
use Rattle.std.proofs.lemmas.Result.{err_from_is_err_and}
use Rattle.cut_words.proofs.runs.store_from.Goals as goal

pub loop-index-preserved : goal.loop-index-preserved
loop-index-preserved g c =
    let now = g.W.WordSpace.words c.loop-index.words in
    let new = g.W.WordSpace.words c.store.new.self in
    let value = get_or c.args.values.now c.loop-index.index 0 in
    let made = c.in_ok-store.ensures.made in
    let same = makes_length now new c.loop-index.fuse c.store.new.fuse (store c.loop-index.place (get_or c.args.values.now c.loop-index.index 0) ∷ []) true c.in_ok-store.ensures.made in
    record {
      beside = c.in_ok-store.ensures.beside ∙ c.loop-index.invariant.beside;
      at = omega arith;
      same = same ∙ c.loop-index.invariant.same;
      within = omega arith;
      inside = omega (arith, same, c.loop-index.invariant.inside);
      small = omega (arith, same, c.loop-index.invariant.small);
      settled = λ i from to. store_on now new c.loop-index.fuse c.store.new.fuse c.loop-index.place (get_or c.args.values.now c.loop-index.index 0) i c.in_ok-store.ensures.made from
          (c.loop-index.invariant.settled i (omega arith) (omega arith));
      on = λ w f made rest. c.loop-index.invariant.on w f made
          (stores_on now new w c.loop-index.fuse c.store.new.fuse f c.loop-index.place c.loop-index.index c.args.values.now made (omega arith) c.in_ok-store.ensures.made rest);
    }

pub returns-in_err-store-clause-made : goal.returns-in_err-store-clause-made
returns-in_err-store-clause-made g c =
    let now = g.W.WordSpace.words c.loop-index.words in
    let new = g.W.WordSpace.words c.store.new.self in
    let p = err_from_is_err_and c.from_residual.result c.from_residual.ensures.1 in
    (rw p.1 (c.loop-index.invariant.on new c.store.new.fuse false
    (stores_stop now new c.loop-index.fuse c.store.new.fuse c.loop-index.place c.loop-index.index c.args.values.now (omega arith) c.in_err-store.ensures.made)))

pub returns-in_err-store-clause-count : goal.returns-in_err-store-clause-count
returns-in_err-store-clause-count g c =
    makes_length (g.W.WordSpace.words c.loop-index.words) (g.W.WordSpace.words c.store.new.self) c.loop-index.fuse c.store.new.fuse
    (store c.loop-index.place (get_or c.args.values.now c.loop-index.index 0) ∷ []) false c.in_err-store.ensures.made
    ∙ c.loop-index.invariant.same

pub returns-clause-made : goal.returns-clause-made
returns-clause-made g c =
    let now = g.W.WordSpace.words c.loop-index.words in
    (c.loop-index.invariant.on now c.loop-index.fuse true (stores_end now c.loop-index.fuse c.loop-index.place c.loop-index.index c.args.values.now (omega arith)))
