use Rattle.std.proofs.Common.{◌∙◌, sym, arith}
use Rattle.arena_open.specs.Chain.{chain_answer}
use Rattle.sector_namespaces.proofs.Views.{no_words, some_words}
use Rattle.namespace_words.proofs.loading.open_words.Goals as goal

pub returns-then-len-eq0 : goal.returns-then-len-eq0
returns-then-len-eq0 c = λ memory. sym (no_words c.args.words.items c.args.uuid.now (omega (arith, c.if-len-eq0.true, c.len.ensures)))

pub returns : goal.returns
returns c = λ memory.
    c.open_chain.ensures.answer memory
    ∙ (λ i. chain_answer (c.none-fuse.ensures i) (c.in-Ok.ensures i).kept c.args.uuid.now (c.first_arena.ensures i))
    ∙ sym (some_words c.args.words.items c.args.uuid.now (λ e. c.if-len-eq0.false (omega (arith, c.len.ensures, e))))
