use Rattle.std.proofs.Common.{◌≡◌, ◌∙◌, List, None, Err, ap, sym}
use Rattle.arena_open.specs.declared.chain_refused.ChainRefused.{ChainRefused}
use Rattle.arena_open.specs.Chain.{Link, chain_answer}
use Rattle.sector_namespaces.proofs.Views.{no_words, some_words}
use Rattle.namespace_bytes.proofs.Sizes.{all_of}
use Rattle.namespace_bytes.proofs.reading.read_arenas.Goals as goal

pub returns-then-count-eq0-clause-refused : goal.returns-then-count-eq0-clause-refused
returns-then-count-eq0-clause-refused g c = λ f e finding.
    no_words (g.W.WordSpace.words c.args.space.now).kept c.args.uuid.now (sym c.count.ensures ∙ c.if-count-eq0.true)
    ∙ ap (λ (r : ChainRefused). Err r) (let same : _ ≡ f = cc in same)

pub returns-clause-all : goal.returns-clause-all
returns-clause-all g c =
    all_of (λ (links : List Link). links) (g.W.WordSpace.words c.args.space.now).kept c.args.uuid.now _ c.read_chain.result c.first_arena.ensures
    (λ e. c.if-count-eq0.false (c.count.ensures ∙ e)) c.read_chain.ensures.read c.read_chain.ensures.linked

pub returns-clause-refused : goal.returns-clause-refused
returns-clause-refused g c = λ f e finding.
    some_words (g.W.WordSpace.words c.args.space.now).kept c.args.uuid.now (λ z. c.if-count-eq0.false (c.count.ensures ∙ z))
    ∙ ap (chain_answer None (g.W.WordSpace.words c.args.space.now).kept c.args.uuid.now) (sym c.first_arena.ensures) ∙ c.read_chain.ensures.refused f e finding
