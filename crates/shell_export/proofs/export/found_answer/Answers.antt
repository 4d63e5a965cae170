use Rattle.std.proofs.Common.{◌≡◌, ◌∙◌, Bool, true, false, sym, ap, subst}
use Rattle.std.specs.Prelude.{if◌then◌else◌}
use Rattle.cut_words.specs.WordBytes.{bytes_of}
use Rattle.namespace_map.specs.Commands.{is_sector}
use Rattle.namespace_words.specs.Source.{HasEnds, Reveals, words_by}
use Rattle.power_cut.specs.Namespace.{Namespace, over, words_of}
use Rattle.sector_namespaces.specs.View.{opened_view, rows_of}
use Rattle.shell_reports.specs.Outcome.{printed}
use Rattle.shell_reports.specs.Sectors.{on_arenas}
use Rattle.shell_reports.proofs.More.{if_more}
use Rattle.shell_export.specs.Export.{sectors_outcome, words_outcome}
use Rattle.shell_export.proofs.Told.{due_by}
use Rattle.shell_export.proofs.export.found_answer.Goals as goal

pub raw_answer-requires : goal.raw_answer-requires
raw_answer-requires g c = record { there = subst (λ (e : Namespace). HasEnds (g.S.ImageSource.held c.args.images.now) e.set) (sym c.of-extent.ensures.made) c.requires.there }

pub returns-then-is_sector-clause-printed : goal.returns-then-is_sector-clause-printed
returns-then-is_sector-clause-printed g c =
    let is : is_sector c.args.found.now.mode ≡ true = sym c.is_sector.ensures ∙ c.if-is_sector.true in
    if_more _ _ c.arenas_answer.result
    (λ ended said.
    due_by (Reveals (g.S.ImageSource.held c.args.images.now) c.args.set.now) (Reveals (g.S.ImageSource.held c.args.images.now) c.args.set.now)
    (λ contents. on_arenas c.args.uuid.now (sectors_outcome c.args.zeros) (opened_view (words_of (over c.args.set.now c.args.found.now.offset c.args.found.now.raw (rows_of contents))).kept c.args.uuid.now))
    (λ contents. words_outcome c.args.uuid.now c.args.zeros c.args.found.now.mode (words_of (over c.args.set.now c.args.found.now.offset c.args.found.now.raw (rows_of contents))).kept)
    (g.O.TextSink.written c.args.text.now) (g.O.TextSink.written c.arenas_answer.new.text) (g.O.TextSink.kept c.args.text.now) (g.O.TextSink.kept c.arenas_answer.new.text) ended
    (λ contents shown. (
      shown,
      ap
          (λ (b : Bool). if b then on_arenas c.args.uuid.now (sectors_outcome c.args.zeros) (opened_view (words_of (over c.args.set.now c.args.found.now.offset c.args.found.now.raw (rows_of contents))).kept c.args.uuid.now)
          else printed (bytes_of (words_of (over c.args.set.now c.args.found.now.offset c.args.found.now.raw (rows_of contents))).kept))
          is,
    ))
    said)
    c.arenas_answer.ensures.printed

pub returns-else-is_sector-clause-printed : goal.returns-else-is_sector-clause-printed
returns-else-is_sector-clause-printed g c =
    let is : is_sector c.args.found.now.mode ≡ false = sym c.is_sector.ensures ∙ c.if-is_sector.false in
    let held = g.S.ImageSource.held c.args.images.now in
    if_more _ _ c.raw_answer.result
    (λ ended said.
    due_by (Reveals (g.S.ImageSource.held c.args.images.now) c.of-extent.result.set) (Reveals (g.S.ImageSource.held c.args.images.now) c.args.set.now)
    (λ contents. printed (bytes_of (words_by c.of-extent.result contents)))
    (λ contents. words_outcome c.args.uuid.now c.args.zeros c.args.found.now.mode (words_of (over c.args.set.now c.args.found.now.offset c.args.found.now.raw (rows_of contents))).kept)
    (g.O.TextSink.written c.args.text.now) (g.O.TextSink.written c.raw_answer.new.text) (g.O.TextSink.kept c.args.text.now) (g.O.TextSink.kept c.raw_answer.new.text) ended
    (λ contents shown. (
      subst (λ (e : Namespace). Reveals held e.set contents) (sym c.of-extent.ensures.made) shown,
      ap
          (λ (b : Bool). if b then on_arenas c.args.uuid.now (sectors_outcome c.args.zeros) (opened_view (words_of (over c.args.set.now c.args.found.now.offset c.args.found.now.raw (rows_of contents))).kept c.args.uuid.now)
          else printed (bytes_of (words_of (over c.args.set.now c.args.found.now.offset c.args.found.now.raw (rows_of contents))).kept))
          is
          ∙ sym (ap (λ (e : Namespace). printed (bytes_of (words_by e contents))) c.of-extent.ensures.made),
    ))
    said)
    c.raw_answer.ensures.printed
