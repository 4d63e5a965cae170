use Rattle.std.proofs.Common.{◌≡◌, ◌∙◌, ◌++◌, ℕ, Bool, List, Option, sym, ap}
use Rattle.arena_layout.specs.declared.info.InfoFault.{InfoFault}
use Rattle.arena_open.specs.declared.refused.OpenRefused.TheVariants as refused
use Rattle.namespace_words.specs.Source.{Reveals, words_by}
use Rattle.shell_reports.specs.Faults.{arena_outcome}
use Rattle.shell_reports.specs.Outcome.{printed}
use Rattle.shell_reports.specs.Saved.{outcome_of}
use Rattle.shell_reports.proofs.More.{if_more}
use Rattle.shell_export.proofs.Told.{due_by, due_made}
use Rattle.shell_rescue.specs.declared.arena.ArenaRescued.{ArenaRescued}
use Rattle.shell_rescue.specs.Comes.{bytes_unless, list_outcome, made_outcome}
use Rattle.shell_rescue.specs.Lost.{last_line}
use Rattle.shell_rescue.specs.Rescue.{arenas_bytes}
use Rattle.shell_rescue.proofs.command.print_rescued.Goals as goal

pub returns-then-listing-clause-printed : goal.returns-then-listing-clause-printed
returns-then-listing-clause-printed g c =
    let r = c.args.rescued in
    due_made (Reveals (g.S.ImageSource.held c.args.images.now) c.args.extent.now.set) (λ contents. made_outcome c.args.uuid.now c.args.listing (words_by c.args.extent.now contents) r)
    (g.O.TextSink.written c.args.text.now) (g.O.TextSink.written c.print_made.new.text) (g.O.TextSink.kept c.args.text.now) (g.O.TextSink.kept c.print_made.new.text)
    c.lost_report.result c.print_made.result (λ report. outcome_of report ≡ list_outcome r.count (r.text.items ++ last_line r.count)) c.lost_report.ensures
    (λ report says contents known. ap (λ (b : Bool). made_outcome c.args.uuid.now b (words_by c.args.extent.now contents) r) c.if-listing.true ∙ sym says)
    c.print_made.ensures.printed

pub returns-in-Some-clause-printed : goal.returns-in-Some-clause-printed
returns-in-Some-clause-printed g c =
    let r = c.args.rescued in
    due_made (Reveals (g.S.ImageSource.held c.args.images.now) c.args.extent.now.set) (λ contents. made_outcome c.args.uuid.now c.args.listing (words_by c.args.extent.now contents) r)
    (g.O.TextSink.written c.args.text.now) (g.O.TextSink.written c.print_made-in-Some.new.text) (g.O.TextSink.kept c.args.text.now) (g.O.TextSink.kept c.print_made-in-Some.new.text)
    c.no_arena.result c.print_made-in-Some.result (λ report. outcome_of report ≡ arena_outcome c.args.uuid.now (record { arena = 0; fault = refused.Info c.in-Some.fault })) c.no_arena.ensures
    (λ report says contents known.
    ap (λ (b : Bool). made_outcome c.args.uuid.now b (words_by c.args.extent.now contents) r) c.if-listing.false
    ∙ ap (λ (fault : Option InfoFault). bytes_unless c.args.uuid.now fault (arenas_bytes (words_by c.args.extent.now contents) r.arenas)) c.in-Some.is ∙ sym says)
    c.print_made-in-Some.ensures.printed

pub returns-clause-printed : goal.returns-clause-printed
returns-clause-printed g c =
    let r = c.args.rescued in
    let Known : List (List ℕ) → Type 0 = Reveals (g.S.ImageSource.held c.args.images.now) c.args.extent.now.set in
    if_more _ _ c.print_arenas.result
    (λ ended said.
    due_by Known Known (λ contents. printed (arenas_bytes (words_by c.args.extent.now contents) c.as_slice.result.now))
    (λ contents. made_outcome c.args.uuid.now c.args.listing (words_by c.args.extent.now contents) r)
    (g.O.TextSink.written c.args.text.now) (g.O.TextSink.written c.print_arenas.new.text) (g.O.TextSink.kept c.args.text.now) (g.O.TextSink.kept c.print_arenas.new.text) ended
    (λ contents known. (
      known,
      ap (λ (b : Bool). made_outcome c.args.uuid.now b (words_by c.args.extent.now contents) r) c.if-listing.false
          ∙ ap (λ (fault : Option InfoFault). bytes_unless c.args.uuid.now fault (arenas_bytes (words_by c.args.extent.now contents) r.arenas)) c.in-None.is
          ∙ sym (ap (λ (arenas : List ArenaRescued). printed (arenas_bytes (words_by c.args.extent.now contents) arenas)) c.as_slice.ensures),
    ))
    said)
    c.print_arenas.ensures.printed
