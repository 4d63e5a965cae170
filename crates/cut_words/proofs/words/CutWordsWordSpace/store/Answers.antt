use Rattle.std.proofs.Common.{[], ◌∷◌, true, refl, sym, subst}
use Rattle.std.proofs.lemmas.Result.{err_from_is_err_and}
use Rattle.cut_words.specs.Fuses.{Makes}
use Rattle.cut_words.specs.Words.{store}
use Rattle.cut_words.proofs.OneStep.{words_of, cut_one, stores_one}
use Rattle.cut_words.proofs.words.CutWordsWordSpace.store.Goals as goal

pub returns-in_err-spend : goal.returns-in_err-spend
returns-in_err-spend c =
    let p = err_from_is_err_and c.from_residual.result c.from_residual.ensures.1 in
    record { made = rw p.1 (cut_one c.args.self.now c.args.fuse.now c.spend.new.self (store c.args.i c.args.v) c.in_err-spend.ensures.made c.in_err-spend.ensures.left); beside = refl }

pub returns : goal.returns
returns c = record {
  made = subst (λ values. Makes c.args.self.now (words_of c.self.inside.kept.items c.set-2.new.self values) c.args.fuse.now c.spend.new.self (store c.args.i c.args.v ∷ []) true) (sym c.set.ensures)
      (stores_one c.self.inside.kept.items c.self.inside.pending c.set-2.new.self c.self.inside.stored c.args.self.now c.args.i c.args.v c.args.fuse.now c.spend.new.self
      c.self.view_is c.self.invariant.0 c.self.invariant.1 c.requires.inside c.set-2.ensures c.in_ok-spend.ensures.made c.in_ok-spend.ensures.left);
  beside = refl;
}
