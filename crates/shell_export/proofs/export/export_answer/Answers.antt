use Rattle.std.proofs.Common.{◌∙◌, ℕ, List, length, refl, ap, sym, subst}
use Rattle.image_set.specs.declared.changing.OutlineRest.{OutlineRest}
use Rattle.image_set.specs.Outline.{HasContents, image_set_with}
use Rattle.shell_reports.specs.Saved.{outcome_of}
use Rattle.shell_reports.proofs.More.{if_more}
use Rattle.shell_sectors.specs.Opening.{IsFaulty, IsOpenOutline, OpensOutline}
use Rattle.shell_export.specs.Export.{export_outcome}
use Rattle.shell_export.specs.Printing.{AreHeld}
use Rattle.shell_export.proofs.Causes.{export_ends}
use Rattle.shell_export.proofs.Opened.{fault_due}
use Rattle.shell_export.proofs.Told.{due_report, settled}
use Rattle.shell_export.proofs.export.export_answer.Goals as goal

pub named_answer-requires : goal.named_answer-requires
named_answer-requires g c =
    let o : IsOpenOutline c.args.outline c.in-Ok-Done.registry c.in-Ok-Done._rest = subst (OpensOutline c.args.outline) c.in-Ok-Done.field-0-is c.in-Ok-Done.ensures in (
      c.args.outline,
      (
        c.in-Ok-Done._rest,
        o,
        (λ source told. subst (λ (sizes : List ℕ). HasContents sizes source) (sym (ap (λ (r : OutlineRest). r.sizes) o.rest_is)) (c.requires.there source told)),
      ),
    )

pub returns-in-Ok-Done-clause-printed : goal.returns-in-Ok-Done-clause-printed
returns-in-Ok-Done-clause-printed g c =
    let o : IsOpenOutline c.args.outline c.in-Ok-Done.registry c.in-Ok-Done._rest = subst (OpensOutline c.args.outline) c.in-Ok-Done.field-0-is c.in-Ok-Done.ensures in
    if_more _ _ c.named_answer.result
    (λ ended said.
    settled (λ contents. export_outcome c.args.uuid.now c.args.zeros (image_set_with c.args.outline contents)) (λ contents. (export_ends (image_set_with c.args.outline contents) c.args.uuid.now c.args.zeros).1) (length c.args.outline.sizes)
    (g.O.TextSink.written c.args.text.now) (g.O.TextSink.written c.named_answer.new.text) (g.O.TextSink.kept c.args.text.now) (g.O.TextSink.kept c.named_answer.new.text) ended
    (g.S.ImageSource.held c.args.images.now)
    (said c.args.outline c.in-Ok-Done._rest o (λ source told. subst (λ (sizes : List ℕ). HasContents sizes source) (sym (ap (λ (r : OutlineRest). r.sizes) o.rest_is)) (c.requires.there source told))))
    c.named_answer.ensures.printed

pub returns-in-Ok-Not-clause-printed : goal.returns-in-Ok-Not-clause-printed
returns-in-Ok-Not-clause-printed g c =
    let it : IsFaulty c.args.outline c.in-Ok-Not.report = subst (OpensOutline c.args.outline) c.in-Ok-Not.field-0-is c.in-Ok-Not.ensures in
    settled (λ contents. export_outcome c.args.uuid.now c.args.zeros (image_set_with c.args.outline contents)) (λ contents. (export_ends (image_set_with c.args.outline contents) c.args.uuid.now c.args.zeros).1) (length c.args.outline.sizes)
    (g.O.TextSink.written c.args.text.now) (g.O.TextSink.written c.print_report.new.text) (g.O.TextSink.kept c.args.text.now) (g.O.TextSink.kept c.print_report.new.text) c.print_report.result
    (g.S.ImageSource.held c.args.images.now)
    (due_report (AreHeld (g.S.ImageSource.held c.args.images.now) (length c.args.outline.sizes)) (λ contents. export_outcome c.args.uuid.now c.args.zeros (image_set_with c.args.outline contents)) (outcome_of c.in-Ok-Not.report)
    (g.O.TextSink.written c.args.text.now) (g.O.TextSink.written c.print_report.new.text) (g.O.TextSink.kept c.args.text.now) (g.O.TextSink.kept c.print_report.new.text) c.print_report.result refl
    (λ contents known. fault_due c.args.outline c.args.uuid.now c.args.zeros contents it.0 (it.1 contents) ∙ sym it.2)
    c.print_report.ensures.printed)
