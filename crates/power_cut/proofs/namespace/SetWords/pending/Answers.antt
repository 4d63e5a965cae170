use Rattle.std.proofs.Common.{◌≡◌, ◌<◌, ℕ, ◌*◌, None, get_or, ap, sym, ◌∙◌, subst, arith}
use Rattle.std.specs.Prelude.{is_some}
use Rattle.cut_words.specs.Words.{Words}
use Rattle.power_cut.specs.Namespace.{Namespace, HasRows, count_of, over, row_of, words_of}
use Rattle.power_cut.proofs.Spread.{IsWordOf, count_is, eighth, row_read, stored_is, word_of_rows}
use Rattle.power_cut.proofs.namespace.SetWords.pending.Goals as goal

pub locate-module-requires : goal.locate-module-requires
locate-module-requires c = omega (arith, c.requires, count_is c.args.self.now)

pub returns : goal.returns
returns c =
    let n : Namespace = over c.self.inside.extent.set c.self.inside.extent.offset c.self.inside.extent.raw c.self.inside.modules.items in
    let which : ℕ = c.locate-module.result.0 in
    let k : ℕ = c.locate-module.result.1 in
    let below : c.args.i < count_of c.args.self.now = omega (arith, c.requires, count_is c.args.self.now) in
    let now_rows : HasRows c.args.self.now.set c.args.self.now.modules = subst (λ (m : Namespace). HasRows m.set m.modules) c.self.view_is c.self.invariant.1 in
    let is : IsWordOf n c.args.i which k =
    subst (λ (m : Namespace). IsWordOf m c.args.i which k) (sym c.self.view_is)
    (word_of_rows c.args.self.now c.args.i which k now_rows below c.locate-module.ensures.there c.locate-module.ensures.module c.locate-module.ensures.word) in
    let row : c.index.result.now ≡ row_of n.modules which = row_read n.modules which c.index.result.now is.there c.index.ensures in
    let stored = stored_is n c.args.i which (8 * k) c.self.invariant.0 is.at.below is.at.lies ∙ ap (λ j. get_or (row_of n.modules which).stored j None) (eighth k) in
    c.pending.ensures ∙ ap (λ (r : Words). is_some (get_or r.stored k None)) row
    ∙ ap (λ o. is_some o) (sym stored ∙ ap (λ (m : Namespace). get_or (words_of m).stored c.args.i None) c.self.view_is)
