use Rattle.std.proofs.Common.{◌≡◌, ◌<◌, ℕ, [], ◌∷◌, ap, sym, ◌∙◌, subst, arith}
use Rattle.std.specs.Prelude.{is_ok}
use Rattle.cut_words.specs.Words.{keep}
use Rattle.cut_words.specs.Fuses.{Makes}
use Rattle.power_cut.specs.Namespace.{Namespace, HasRows, IsLaid, count_of, over, row_of, words_of}
use Rattle.power_cut.specs.Placed.{beside_and_place}
use Rattle.power_cut.proofs.Spread.{IsWordOf, count_is, laid_any, makes_words, row_read, keeps, with_row, word_of_rows}
use Rattle.power_cut.proofs.Beside.{beside_same, rows_after}
use Rattle.power_cut.proofs.Stays.{placed_same}
use Rattle.power_cut.proofs.namespace.SetWordsWordSpace.keep.Goals as goal

pub locate-module-requires : goal.locate-module-requires
locate-module-requires c = omega (arith, c.requires, count_is c.args.self.now)

pub invariant_of-self : goal.invariant_of-self
invariant_of-self c =
    let n : Namespace = over c.self.inside.extent.set c.self.inside.extent.offset c.self.inside.extent.raw c.self.inside.modules.items in
    let which : ℕ = c.locate-module.result.0 in
    let k : ℕ = c.locate-module.result.1 in
    let laid : IsLaid n = c.self.invariant.0 in
    let below : c.args.i < count_of c.args.self.now = omega (arith, c.requires, count_is c.args.self.now) in
    let now_rows : HasRows c.args.self.now.set c.args.self.now.modules = subst (λ (m : Namespace). HasRows m.set m.modules) c.self.view_is c.self.invariant.1 in
    let is : IsWordOf n c.args.i which k =
    subst (λ (m : Namespace). IsWordOf m c.args.i which k) (sym c.self.view_is)
    (word_of_rows c.args.self.now c.args.i which k now_rows below c.locate-module.ensures.there c.locate-module.ensures.module c.locate-module.ensures.word) in
    let row : c.index_mut.result.now ≡ row_of n.modules which = row_read n.modules which c.index_mut.result.now is.there c.index_mut.ensures.value in
    let made : Makes (row_of n.modules which) c.keep.new.self c.args.fuse.now c.keep.new.fuse ((keep c.locate-module.result.1) ∷ []) (is_ok c.keep.result) =
    subst (λ r. Makes r c.keep.new.self c.args.fuse.now c.keep.new.fuse ((keep c.locate-module.result.1) ∷ []) (is_ok c.keep.result)) row c.keep.ensures.made in
    (laid_any n _ laid, rows_after n c.args.i which k (keep c.args.i) (keep c.locate-module.result.1) c.keep.new.self c.args.fuse.now c.keep.new.fuse (is_ok c.keep.result) is keeps made c.self.invariant.1)

pub returns-clause-made : goal.returns-clause-made
returns-clause-made c =
    let n : Namespace = over c.self.inside.extent.set c.self.inside.extent.offset c.self.inside.extent.raw c.self.inside.modules.items in
    let which : ℕ = c.locate-module.result.0 in
    let k : ℕ = c.locate-module.result.1 in
    let laid : IsLaid n = c.self.invariant.0 in
    let below : c.args.i < count_of c.args.self.now = omega (arith, c.requires, count_is c.args.self.now) in
    let now_rows : HasRows c.args.self.now.set c.args.self.now.modules = subst (λ (m : Namespace). HasRows m.set m.modules) c.self.view_is c.self.invariant.1 in
    let is : IsWordOf n c.args.i which k =
    subst (λ (m : Namespace). IsWordOf m c.args.i which k) (sym c.self.view_is)
    (word_of_rows c.args.self.now c.args.i which k now_rows below c.locate-module.ensures.there c.locate-module.ensures.module c.locate-module.ensures.word) in
    let row : c.index_mut.result.now ≡ row_of n.modules which = row_read n.modules which c.index_mut.result.now is.there c.index_mut.ensures.value in
    let made : Makes (row_of n.modules which) c.keep.new.self c.args.fuse.now c.keep.new.fuse ((keep c.locate-module.result.1) ∷ []) (is_ok c.keep.result) =
    subst (λ r. Makes r c.keep.new.self c.args.fuse.now c.keep.new.fuse ((keep c.locate-module.result.1) ∷ []) (is_ok c.keep.result)) row c.keep.ensures.made in
    subst (λ (m : Namespace). Makes (words_of m) (words_of (with_row n which c.keep.new.self)) c.args.fuse.now c.keep.new.fuse ((keep c.args.i) ∷ []) (is_ok c.keep.result)) c.self.view_is
    (makes_words n c.args.i which k (keep c.args.i) (keep c.locate-module.result.1) c.keep.new.self c.args.fuse.now c.keep.new.fuse (is_ok c.keep.result) laid is keeps made)

pub returns-clause-beside : goal.returns-clause-beside
returns-clause-beside c =
    let n : Namespace = over c.self.inside.extent.set c.self.inside.extent.offset c.self.inside.extent.raw c.self.inside.modules.items in
    let which : ℕ = c.locate-module.result.0 in
    let k : ℕ = c.locate-module.result.1 in
    let laid : IsLaid n = c.self.invariant.0 in
    let below : c.args.i < count_of c.args.self.now = omega (arith, c.requires, count_is c.args.self.now) in
    let now_rows : HasRows c.args.self.now.set c.args.self.now.modules = subst (λ (m : Namespace). HasRows m.set m.modules) c.self.view_is c.self.invariant.1 in
    let is : IsWordOf n c.args.i which k =
    subst (λ (m : Namespace). IsWordOf m c.args.i which k) (sym c.self.view_is)
    (word_of_rows c.args.self.now c.args.i which k now_rows below c.locate-module.ensures.there c.locate-module.ensures.module c.locate-module.ensures.word) in
    let row : c.index_mut.result.now ≡ row_of n.modules which = row_read n.modules which c.index_mut.result.now is.there c.index_mut.ensures.value in
    let made : Makes (row_of n.modules which) c.keep.new.self c.args.fuse.now c.keep.new.fuse ((keep c.locate-module.result.1) ∷ []) (is_ok c.keep.result) =
    subst (λ r. Makes r c.keep.new.self c.args.fuse.now c.keep.new.fuse ((keep c.locate-module.result.1) ∷ []) (is_ok c.keep.result)) row c.keep.ensures.made in
    placed_same n (with_row n which c.keep.new.self).modules
    (beside_same n c.args.i which k (keep c.args.i) (keep c.locate-module.result.1) c.keep.new.self c.args.fuse.now c.keep.new.fuse (is_ok c.keep.result) laid is keeps made)
    ∙ ap (λ (m : Namespace). beside_and_place m) c.self.view_is
