use Rattle.std.proofs.Common.{◌≡◌, ◌<◌, ℕ, ap, sym, ◌∙◌, subst, arith}
use Rattle.cut_words.specs.Words.{Words, seen_at}
use Rattle.power_cut.specs.Namespace.{Namespace, HasRows, count_of, over, row_of, words_of}
use Rattle.power_cut.proofs.Spread.{IsWordOf, count_is, row_read, seen_is, word_of_rows}
use Rattle.power_cut.proofs.namespace.SetWordsWordSpace.load.Goals as goal

pub locate-module-requires : goal.locate-module-requires
locate-module-requires c = omega (arith, c.requires, count_is c.args.self.now)

pub returns : goal.returns
returns c =
    let n : Namespace = over c.self.inside.extent.set c.self.inside.extent.offset c.self.inside.extent.raw c.self.inside.modules.items in
    let which : ℕ = c.locate-module.result.0 in
    let k : ℕ = c.locate-module.result.1 in
    let below : c.args.i < count_of c.args.self.now = omega (arith, c.requires, count_is c.args.self.now) in
    let now_rows : HasRows c.args.self.now.set c.args.self.now.modules = subst (λ (m : Namespace). HasRows m.set m.modules) c.self.view_is c.self.invariant.1 in
    let is : IsWordOf n c.args.i which k =
    subst (λ (m : Namespace). IsWordOf m c.args.i which k) (sym c.self.view_is)
    (word_of_rows c.args.self.now c.args.i which k now_rows below c.locate-module.ensures.there c.locate-module.ensures.module c.locate-module.ensures.word) in
    let row : c.index.result.now ≡ row_of n.modules which = row_read n.modules which c.index.result.now is.there c.index.ensures in
    c.load.ensures ∙ ap (λ (r : Words). seen_at r k) row ∙ sym (seen_is n c.args.i which k c.self.invariant.0 is) ∙ ap (λ (m : Namespace). seen_at (words_of m) c.args.i) c.self.view_is
