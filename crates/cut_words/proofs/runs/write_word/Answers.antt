use Rattle.std.proofs.Common.{[], ◌∷◌, true, false, ◌∙◌, arith}
use Rattle.std.specs.Prelude.{is_ok}
use Rattle.cut_words.specs.Words.{store, keep}
use Rattle.cut_words.proofs.Making.{makes_both, makes_length}
use Rattle.cut_words.proofs.runs.write_word.Goals as goal

pub returns-in_err-store-clause-count : goal.returns-in_err-store-clause-count
returns-in_err-store-clause-count g c =
    makes_length (g.W.WordSpace.words c.args.words.now) (g.W.WordSpace.words c.store.new.self) c.args.fuse.now c.store.new.fuse (store c.args.i c.args.v ∷ []) false c.in_err-store.ensures.made

pub keep-requires : goal.keep-requires
keep-requires g c =
    let same = makes_length (g.W.WordSpace.words c.args.words.now) (g.W.WordSpace.words c.store.new.self) c.args.fuse.now c.store.new.fuse (store c.args.i c.args.v ∷ []) true c.in_ok-store.ensures.made in
    omega (arith, same, c.requires.inside)

pub returns-clause-made : goal.returns-clause-made
returns-clause-made g c =
    makes_both (g.W.WordSpace.words c.args.words.now) (g.W.WordSpace.words c.store.new.self) (g.W.WordSpace.words c.keep.new.self) c.args.fuse.now c.store.new.fuse c.keep.new.fuse
    (store c.args.i c.args.v ∷ []) (keep c.args.i ∷ []) (is_ok c.keep.result) c.in_ok-store.ensures.made c.keep.ensures.made

pub returns-clause-count : goal.returns-clause-count
returns-clause-count g c =
    makes_length (g.W.WordSpace.words c.store.new.self) (g.W.WordSpace.words c.keep.new.self) c.store.new.fuse c.keep.new.fuse (keep c.args.i ∷ []) (is_ok c.keep.result) c.keep.ensures.made
    ∙ makes_length (g.W.WordSpace.words c.args.words.now) (g.W.WordSpace.words c.store.new.self) c.args.fuse.now c.store.new.fuse (store c.args.i c.args.v ∷ []) true c.in_ok-store.ensures.made
