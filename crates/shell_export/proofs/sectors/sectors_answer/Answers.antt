use Rattle.std.proofs.Common.{◌∙◌, ℕ, map, Option, ap, sym}
use Rattle.arena_open.specs.Chain.{state_at}
use Rattle.namespace_words.specs.Source.{words_by}
use Rattle.shell_reports.proofs.More.{if_more}
use Rattle.shell_export.specs.Export.{bytes_unless, sectors_outcome}
use Rattle.shell_export.specs.Printing.{KnowsAll}
use Rattle.shell_export.proofs.Told.{due_by, due_made}
use Rattle.shell_export.proofs.sectors.sectors_answer.Goals as goal

pub returns-in-Some-clause-printed : goal.returns-in-Some-clause-printed
returns-in-Some-clause-printed g c =
    due_made (KnowsAll (g.S.ImageSource.held c.args.images.now) c.args.extent.now c.args.arenas.now)
    (λ contents. sectors_outcome c.args.zeros (map (state_at (words_by c.args.extent.now contents)) c.args.arenas.now))
    (g.O.TextSink.written c.args.text.now) (g.O.TextSink.written c.print_made.new.text) (g.O.TextSink.kept c.args.text.now) (g.O.TextSink.kept c.print_made.new.text)
    c.bad_answer.result c.print_made.result _ c.bad_answer.ensures
    (λ report says contents known.
    ap (λ (bad : Option ℕ). bytes_unless bad (map (state_at (words_by c.args.extent.now contents)) c.args.arenas.now))
    (sym (c.refused_at.ensures (words_by c.args.extent.now contents) known.1.0 known.1.1) ∙ c.in-Some.is)
    ∙ sym says)
    c.print_made.ensures.printed

pub returns-in-None-clause-printed : goal.returns-in-None-clause-printed
returns-in-None-clause-printed g c =
    if_more _ _ c.all_sectors.result
    (λ ended said.
    due_by (KnowsAll (g.S.ImageSource.held c.args.images.now) c.args.extent.now c.args.arenas.now) (KnowsAll (g.S.ImageSource.held c.args.images.now) c.args.extent.now c.args.arenas.now)
    _ (λ contents. sectors_outcome c.args.zeros (map (state_at (words_by c.args.extent.now contents)) c.args.arenas.now))
    (g.O.TextSink.written c.args.text.now) (g.O.TextSink.written c.all_sectors.new.text) (g.O.TextSink.kept c.args.text.now) (g.O.TextSink.kept c.all_sectors.new.text) ended
    (λ contents known. (
      known,
      ap (λ (bad : Option ℕ). bytes_unless bad (map (state_at (words_by c.args.extent.now contents)) c.args.arenas.now))
          (sym (c.refused_at.ensures (words_by c.args.extent.now contents) known.1.0 known.1.1) ∙ c.in-None.is),
    ))
    said)
    c.all_sectors.ensures.printed
