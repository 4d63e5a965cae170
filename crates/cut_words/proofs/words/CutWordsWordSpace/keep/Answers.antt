use Rattle.std.proofs.Common.{refl, sym, ◌∙◌}
use Rattle.std.proofs.lemmas.Result.{err_from_is_err_and}
use Rattle.cut_words.specs.Words.{keep}
use Rattle.cut_words.proofs.OneStep.{cut_one, keeps_one, keeps_still}
use Rattle.cut_words.proofs.words.CutWordsWordSpace.keep.Goals as goal

pub returns-in_err-spend : goal.returns-in_err-spend
returns-in_err-spend c =
    let p = err_from_is_err_and c.from_residual.result c.from_residual.ensures.1 in
    record { made = rw p.1 (cut_one c.args.self.now c.args.fuse.now c.spend.new.self (keep c.args.i) c.in_err-spend.ensures.made c.in_err-spend.ensures.left); beside = refl }

pub returns-then-get : goal.returns-then-get
returns-then-get c = record {
  made = keeps_one c.self.inside.kept.items c.self.inside.pending c.clear.new.self c.self.inside.stored c.args.self.now c.args.i c.get-then-get.result c.args.fuse.now c.spend.new.self
      c.self.view_is c.self.invariant.0 c.self.invariant.1 c.requires c.clear.ensures (sym c.get.ensures ∙ c.if-get.true) c.get-then-get.ensures c.in_ok-spend.ensures.made c.in_ok-spend.ensures.left;
  beside = refl;
}

pub returns-else-get : goal.returns-else-get
returns-else-get c = record {
  made = keeps_still c.self.inside.kept.items c.self.inside.pending c.self.inside.stored c.args.self.now c.args.i c.args.fuse.now c.spend.new.self
      c.self.view_is c.self.invariant.0 c.self.invariant.1 c.requires (sym c.get.ensures ∙ c.if-get.false) c.in_ok-spend.ensures.made c.in_ok-spend.ensures.left;
  beside = refl;
}
