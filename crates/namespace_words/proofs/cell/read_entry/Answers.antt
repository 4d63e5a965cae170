use Rattle.std.proofs.Common.{◌≡◌, drop, sym, subst}
use Rattle.std.specs.Prelude.{IfOk}
use Rattle.map_table.specs.declared.kinds.Kind.{Kind}
use Rattle.arena_open.specs.Reading.{cell_by}
use Rattle.namespace_words.specs.Source.{words_by}
use Rattle.namespace_words.proofs.cell.read_entry.Goals as goal

pub returns-in-Initial-clause-told : goal.returns-in-Initial-clause-told
returns-in-Initial-clause-told g c = λ contents reveals.
    subst (λ (k : Kind). IfOk c.read_block.result (λ answer. IfOk answer (λ found. found ≡ cell_by c.args.layout.now (drop c.args.at (words_by c.args.extent.now contents)) k c.args.entry.block)))
    (sym c.in-Initial.is) (c.read_block.ensures.told contents reveals)

pub returns-in-Normal-clause-told : goal.returns-in-Normal-clause-told
returns-in-Normal-clause-told g c = λ contents reveals.
    subst (λ (k : Kind). IfOk c.read_block-in-Normal.result (λ answer. IfOk answer (λ found. found ≡ cell_by c.args.layout.now (drop c.args.at (words_by c.args.extent.now contents)) k c.args.entry.block)))
    (sym c.in-Normal.is) (c.read_block-in-Normal.ensures.told contents reveals)
