use Rattle.std.proofs.Common.{◌≡◌, ℕ, ◌∙◌, ◌%◌, List, length, None, Err, ap, sym, subst}
use Rattle.std.specs.List.{All}
use Rattle.interleave.specs.Places.{unit_of}
use Rattle.cut_words.specs.Words.{Words, settled}
use Rattle.power_cut.specs.Namespace.{Namespace, ReachEnds, words_of, over}
use Rattle.arena_open.specs.declared.chain_refused.ChainRefused.{ChainRefused}
use Rattle.arena_open.specs.Chain.{chain_answer}
use Rattle.sector_namespaces.specs.View.{view_words}
use Rattle.sector_namespaces.proofs.Views.{length_view, pages_of, page_words, view_settled, no_words, some_words}
use Rattle.sector_namespaces.proofs.view.open_sectors.Goals as goal

pub of-space-requires-clause-reach : goal.of-space-requires-clause-reach
of-space-requires-clause-reach c = subst (ReachEnds c.args.set.now) (sym c.into_vec.ensures) c.requires.usable.reach

pub returns-then-count-eq0 : goal.returns-then-count-eq0
unfolding view_words
returns-then-count-eq0 c = λ memory.
    let n_is : c.of-space.result ≡ over c.args.set.now c.args.found.now.offset c.args.found.now.raw c.args.contents =
    c.of-space.ensures.made ∙ (λ i. over c.args.set.now c.args.found.now.offset c.args.found.now.raw (c.into_vec.ensures i)) in
    ap (λ (r : ChainRefused). Err r) c.no_block.ensures
    ∙ sym (no_words (view_words c.args.set.now c.args.found.now c.args.contents) c.args.uuid.now
    (ap (λ (n : Namespace). length (words_of n).kept) (sym n_is) ∙ sym c.count.ensures ∙ c.if-count-eq0.true))

pub read_chain-requires-clause-to : goal.read_chain-requires-clause-to
read_chain-requires-clause-to c =
    let n_is : c.of-space.result ≡ over c.args.set.now c.args.found.now.offset c.args.found.now.raw c.args.contents =
    c.of-space.ensures.made ∙ (λ i. over c.args.set.now c.args.found.now.offset c.args.found.now.raw (c.into_vec.ensures i)) in
    let pages = c.requires.usable.pages in
    ap (λ (n : ℕ). n % 512) (ap (λ (n : Namespace). length (words_of n).kept) n_is
    ∙ length_view (over c.args.set.now c.args.found.now.offset c.args.found.now.raw c.args.contents))
    ∙ page_words (length c.args.set.now) c.args.found.now.raw
    (pages_of c.args.found.now.raw (unit_of c.args.set.now) pages.0 pages.1 c.requires.lies.to)

pub read_chain-requires-clause-settled : goal.read_chain-requires-clause-settled
read_chain-requires-clause-settled c =
    view_settled c.of-space.result
    (subst (λ (ws : List Words). All (λ w. w ≡ settled w.kept) ws) (sym (ap (λ (n : Namespace). n.modules) c.of-space.ensures.made ∙ c.into_vec.ensures))
    (λ k d lt. (c.requires.rows k d lt).kept))

pub returns : goal.returns
unfolding view_words
returns c = λ memory.
    let n_is : c.of-space.result ≡ over c.args.set.now c.args.found.now.offset c.args.found.now.raw c.args.contents =
    c.of-space.ensures.made ∙ (λ i. over c.args.set.now c.args.found.now.offset c.args.found.now.raw (c.into_vec.ensures i)) in
    c.read_chain.ensures memory
    ∙ (λ i. chain_answer None (words_of (n_is i)).kept c.args.uuid.now (c.first_arena.ensures i))
    ∙ sym (some_words (view_words c.args.set.now c.args.found.now c.args.contents) c.args.uuid.now
    (λ e. c.if-count-eq0.false (c.count.ensures ∙ ap (λ (n : Namespace). length (words_of n).kept) n_is ∙ e)))
