use Rattle.std.proofs.Common.{◌∙◌, ℕ, List, length, refl, sym, subst}
use Rattle.image_set.specs.Outline.{image_set_with}
use Rattle.shell_reports.specs.Outcome.{Outcome}
use Rattle.shell_reports.specs.Saved.{outcome_of}
use Rattle.shell_reports.proofs.More.{if_more}
use Rattle.shell_sectors.specs.Opening.{IsFaulty, IsOpenOutline, OpensOutline}
use Rattle.shell_export.specs.Printing.{AreHeld}
use Rattle.shell_export.proofs.Told.{due_report, settled}
use Rattle.shell_rescue.specs.Comes.{rescue_outcome}
use Rattle.shell_rescue.proofs.Causes.{rescue_ends}
use Rattle.shell_rescue.proofs.Named.{fault_due}
use Rattle.shell_rescue.proofs.command.rescue_answer.Goals as goal

pub returns-in-Ok-Done-clause-printed : goal.returns-in-Ok-Done-clause-printed
returns-in-Ok-Done-clause-printed g c =
    let outline = c.args.outline in
    let due : List (List ℕ) → Outcome = (λ contents. rescue_outcome c.args.uuid.now c.args.listing (image_set_with outline contents)) in
    let o : IsOpenOutline outline c.in-Ok-Done.registry c.in-Ok-Done.rest = subst (OpensOutline outline) c.in-Ok-Done.field-0-is c.in-Ok-Done.ensures in
    if_more _ _ c.named_answer.result
    (λ ended said.
    settled due (λ contents. (rescue_ends (image_set_with outline contents) c.args.uuid.now c.args.listing).1) (length outline.sizes)
    (g.O.TextSink.written c.args.text.now) (g.O.TextSink.written c.named_answer.new.text) (g.O.TextSink.kept c.args.text.now) (g.O.TextSink.kept c.named_answer.new.text) ended
    (g.S.ImageSource.held c.args.images.now) (said outline o))
    c.named_answer.ensures.printed

pub returns-in-Ok-Not-clause-printed : goal.returns-in-Ok-Not-clause-printed
returns-in-Ok-Not-clause-printed g c =
    let outline = c.args.outline in
    let due : List (List ℕ) → Outcome = (λ contents. rescue_outcome c.args.uuid.now c.args.listing (image_set_with outline contents)) in
    let it : IsFaulty outline c.in-Ok-Not.report = subst (OpensOutline outline) c.in-Ok-Not.field-0-is c.in-Ok-Not.ensures in
    settled due (λ contents. (rescue_ends (image_set_with outline contents) c.args.uuid.now c.args.listing).1) (length outline.sizes)
    (g.O.TextSink.written c.args.text.now) (g.O.TextSink.written c.print_report.new.text) (g.O.TextSink.kept c.args.text.now) (g.O.TextSink.kept c.print_report.new.text) c.print_report.result
    (g.S.ImageSource.held c.args.images.now)
    (due_report (AreHeld (g.S.ImageSource.held c.args.images.now) (length outline.sizes)) due (outcome_of c.in-Ok-Not.report)
    (g.O.TextSink.written c.args.text.now) (g.O.TextSink.written c.print_report.new.text) (g.O.TextSink.kept c.args.text.now) (g.O.TextSink.kept c.print_report.new.text) c.print_report.result refl
    (λ contents known. fault_due outline c.args.uuid.now c.args.listing contents it.0 (it.1 contents) ∙ sym it.2)
    c.print_report.ensures.printed)
