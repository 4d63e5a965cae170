use Rattle.std.proofs.Common.{◌≡◌, ◌<◌, ℕ, [], ◌∷◌, None, get_or, ◌*◌, ap, sym, ◌∙◌, subst, arith}
use Rattle.std.specs.Prelude.{is_ok}
use Rattle.cut_words.specs.Words.{Words, store}
use Rattle.cut_words.specs.Fuses.{Makes}
use Rattle.power_cut.specs.Namespace.{Namespace, HasRows, IsLaid, count_of, over, row_of, words_of}
use Rattle.power_cut.specs.Placed.{beside_and_place}
use Rattle.power_cut.proofs.Spread.{IsWordOf, count_is, eighth, laid_any, makes_words, row_read, stored_is, stores, with_row, word_of_rows}
use Rattle.power_cut.proofs.Beside.{beside_same, rows_after}
use Rattle.power_cut.proofs.Stays.{placed_same}
use Rattle.power_cut.proofs.namespace.SetWordsWordSpace.store.Goals as goal

pub locate-module-requires : goal.locate-module-requires
locate-module-requires c = omega (arith, c.requires.inside, count_is c.args.self.now)

pub store-requires-clause-settled : goal.store-requires-clause-settled
store-requires-clause-settled c =
    let n : Namespace = over c.self.inside.extent.set c.self.inside.extent.offset c.self.inside.extent.raw c.self.inside.modules.items in
    let which : ℕ = c.locate-module.result.0 in
    let k : ℕ = c.locate-module.result.1 in
    let laid : IsLaid n = c.self.invariant.0 in
    let below : c.args.i < count_of c.args.self.now = omega (arith, c.requires.inside, count_is c.args.self.now) in
    let now_rows : HasRows c.args.self.now.set c.args.self.now.modules = subst (λ (m : Namespace). HasRows m.set m.modules) c.self.view_is c.self.invariant.1 in
    let is : IsWordOf n c.args.i which k =
    subst (λ (m : Namespace). IsWordOf m c.args.i which k) (sym c.self.view_is)
    (word_of_rows c.args.self.now c.args.i which k now_rows below c.locate-module.ensures.there c.locate-module.ensures.module c.locate-module.ensures.word) in
    let row : c.index_mut.result.now ≡ row_of n.modules which = row_read n.modules which c.index_mut.result.now is.there c.index_mut.ensures.value in
    let stored = stored_is n c.args.i which (8 * k) laid is.at.below is.at.lies ∙ ap (λ j. get_or (row_of n.modules which).stored j None) (eighth k) in
    ap (λ (r : Words). get_or r.stored k None) row ∙ sym stored ∙ ap (λ (m : Namespace). get_or (words_of m).stored c.args.i None) c.self.view_is ∙ c.requires.settled

pub invariant_of-self : goal.invariant_of-self
invariant_of-self c =
    let n : Namespace = over c.self.inside.extent.set c.self.inside.extent.offset c.self.inside.extent.raw c.self.inside.modules.items in
    let which : ℕ = c.locate-module.result.0 in
    let k : ℕ = c.locate-module.result.1 in
    let laid : IsLaid n = c.self.invariant.0 in
    let below : c.args.i < count_of c.args.self.now = omega (arith, c.requires.inside, count_is c.args.self.now) in
    let now_rows : HasRows c.args.self.now.set c.args.self.now.modules = subst (λ (m : Namespace). HasRows m.set m.modules) c.self.view_is c.self.invariant.1 in
    let is : IsWordOf n c.args.i which k =
    subst (λ (m : Namespace). IsWordOf m c.args.i which k) (sym c.self.view_is)
    (word_of_rows c.args.self.now c.args.i which k now_rows below c.locate-module.ensures.there c.locate-module.ensures.module c.locate-module.ensures.word) in
    let row : c.index_mut.result.now ≡ row_of n.modules which = row_read n.modules which c.index_mut.result.now is.there c.index_mut.ensures.value in
    let made : Makes (row_of n.modules which) c.store.new.self c.args.fuse.now c.store.new.fuse ((store c.locate-module.result.1 c.args.v) ∷ []) (is_ok c.store.result) =
    subst (λ r. Makes r c.store.new.self c.args.fuse.now c.store.new.fuse ((store c.locate-module.result.1 c.args.v) ∷ []) (is_ok c.store.result)) row c.store.ensures.made in
    (laid_any n _ laid, rows_after n c.args.i which k (store c.args.i c.args.v) (store c.locate-module.result.1 c.args.v) c.store.new.self c.args.fuse.now c.store.new.fuse (is_ok c.store.result) is (stores c.args.v) made c.self.invariant.1)

pub returns-clause-made : goal.returns-clause-made
returns-clause-made c =
    let n : Namespace = over c.self.inside.extent.set c.self.inside.extent.offset c.self.inside.extent.raw c.self.inside.modules.items in
    let which : ℕ = c.locate-module.result.0 in
    let k : ℕ = c.locate-module.result.1 in
    let laid : IsLaid n = c.self.invariant.0 in
    let below : c.args.i < count_of c.args.self.now = omega (arith, c.requires.inside, count_is c.args.self.now) in
    let now_rows : HasRows c.args.self.now.set c.args.self.now.modules = subst (λ (m : Namespace). HasRows m.set m.modules) c.self.view_is c.self.invariant.1 in
    let is : IsWordOf n c.args.i which k =
    subst (λ (m : Namespace). IsWordOf m c.args.i which k) (sym c.self.view_is)
    (word_of_rows c.args.self.now c.args.i which k now_rows below c.locate-module.ensures.there c.locate-module.ensures.module c.locate-module.ensures.word) in
    let row : c.index_mut.result.now ≡ row_of n.modules which = row_read n.modules which c.index_mut.result.now is.there c.index_mut.ensures.value in
    let made : Makes (row_of n.modules which) c.store.new.self c.args.fuse.now c.store.new.fuse ((store c.locate-module.result.1 c.args.v) ∷ []) (is_ok c.store.result) =
    subst (λ r. Makes r c.store.new.self c.args.fuse.now c.store.new.fuse ((store c.locate-module.result.1 c.args.v) ∷ []) (is_ok c.store.result)) row c.store.ensures.made in
    subst (λ (m : Namespace). Makes (words_of m) (words_of (with_row n which c.store.new.self)) c.args.fuse.now c.store.new.fuse ((store c.args.i c.args.v) ∷ []) (is_ok c.store.result)) c.self.view_is
    (makes_words n c.args.i which k (store c.args.i c.args.v) (store c.locate-module.result.1 c.args.v) c.store.new.self c.args.fuse.now c.store.new.fuse (is_ok c.store.result) laid is (stores c.args.v) made)

pub returns-clause-beside : goal.returns-clause-beside
returns-clause-beside c =
    let n : Namespace = over c.self.inside.extent.set c.self.inside.extent.offset c.self.inside.extent.raw c.self.inside.modules.items in
    let which : ℕ = c.locate-module.result.0 in
    let k : ℕ = c.locate-module.result.1 in
    let laid : IsLaid n = c.self.invariant.0 in
    let below : c.args.i < count_of c.args.self.now = omega (arith, c.requires.inside, count_is c.args.self.now) in
    let now_rows : HasRows c.args.self.now.set c.args.self.now.modules = subst (λ (m : Namespace). HasRows m.set m.modules) c.self.view_is c.self.invariant.1 in
    let is : IsWordOf n c.args.i which k =
    subst (λ (m : Namespace). IsWordOf m c.args.i which k) (sym c.self.view_is)
    (word_of_rows c.args.self.now c.args.i which k now_rows below c.locate-module.ensures.there c.locate-module.ensures.module c.locate-module.ensures.word) in
    let row : c.index_mut.result.now ≡ row_of n.modules which = row_read n.modules which c.index_mut.result.now is.there c.index_mut.ensures.value in
    let made : Makes (row_of n.modules which) c.store.new.self c.args.fuse.now c.store.new.fuse ((store c.locate-module.result.1 c.args.v) ∷ []) (is_ok c.store.result) =
    subst (λ r. Makes r c.store.new.self c.args.fuse.now c.store.new.fuse ((store c.locate-module.result.1 c.args.v) ∷ []) (is_ok c.store.result)) row c.store.ensures.made in
    placed_same n (with_row n which c.store.new.self).modules
    (beside_same n c.args.i which k (store c.args.i c.args.v) (store c.locate-module.result.1 c.args.v) c.store.new.self c.args.fuse.now c.store.new.fuse (is_ok c.store.result) laid is (stores c.args.v) made)
    ∙ ap (λ (m : Namespace). beside_and_place m) c.self.view_is
