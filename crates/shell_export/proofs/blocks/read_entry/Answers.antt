use Rattle.std.proofs.Common.{◌≡◌, ◌∙◌, ◌/◌, drop, sym, subst}
use Rattle.std.specs.Prelude.{OnOk}
use Rattle.map_table.specs.declared.kinds.Kind.{Kind}
use Rattle.arena_open.specs.Reading.{cell_by}
use Rattle.cut_words.specs.WordBytes.{bytes_of}
use Rattle.namespace_words.specs.Source.{words_by}
use Rattle.shell_export.specs.Export.{cell_words}
use Rattle.shell_export.proofs.SectorBytes.{no_sector}
use Rattle.shell_export.proofs.blocks.read_entry.Goals as goal

pub returns-in-Zero-clause-told : goal.returns-in-Zero-clause-told
returns-in-Zero-clause-told g c = λ contents reveals.
    subst (λ (k : Kind). c.no_bytes.new.into ≡ bytes_of (cell_words (c.args.place.now.layout.sector / 8) (cell_by c.args.place.now.layout (drop c.args.place.now.at (words_by c.args.extent.now contents)) k c.args.entry.block)))
    (sym c.in-Zero.is) (c.no_bytes.ensures ∙ no_sector c.args.into.now c.args.place.now.layout c.requires.layout c.requires.room)

pub returns-in-Bad-clause-told : goal.returns-in-Bad-clause-told
returns-in-Bad-clause-told g c = λ contents reveals.
    subst (λ (k : Kind). c.no_bytes-in-Bad.new.into ≡ bytes_of (cell_words (c.args.place.now.layout.sector / 8) (cell_by c.args.place.now.layout (drop c.args.place.now.at (words_by c.args.extent.now contents)) k c.args.entry.block)))
    (sym c.in-Bad.is) (c.no_bytes-in-Bad.ensures ∙ no_sector c.args.into.now c.args.place.now.layout c.requires.layout c.requires.room)

pub returns-in-Initial-clause-told : goal.returns-in-Initial-clause-told
returns-in-Initial-clause-told g c = λ contents reveals.
    subst (λ (k : Kind). OnOk c.read_block.result (c.read_block.new.into ≡ bytes_of (cell_words (c.args.place.now.layout.sector / 8) (cell_by c.args.place.now.layout (drop c.args.place.now.at (words_by c.args.extent.now contents)) k c.args.entry.block))))
    (sym c.in-Initial.is) (c.read_block.ensures.told contents reveals)

pub returns-in-Normal-clause-told : goal.returns-in-Normal-clause-told
returns-in-Normal-clause-told g c = λ contents reveals.
    subst (λ (k : Kind). OnOk c.read_block-in-Normal.result (c.read_block-in-Normal.new.into ≡ bytes_of (cell_words (c.args.place.now.layout.sector / 8) (cell_by c.args.place.now.layout (drop c.args.place.now.at (words_by c.args.extent.now contents)) k c.args.entry.block))))
    (sym c.in-Normal.is) (c.read_block-in-Normal.ensures.told contents reveals)
