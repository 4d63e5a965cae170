use Rattle.std.proofs.Common.{ℕ, List, length, sym, ap, subst, ◌∙◌}
use Rattle.image_set.specs.declared.changing.OutlineRest.{OutlineRest}
use Rattle.image_set.specs.Outline.{HasContents, contents_in}
use Rattle.shell_reports.proofs.More.{if_more}
use Rattle.shell_sectors.specs.Opening.{IsOpenOutline}
use Rattle.shell_sectors.specs.Opening.{IsFaulty, OpensOutline}
use Rattle.shell_sectors.specs.Asked.{asked}
use Rattle.shell_sectors.proofs.Asked.{fault_due}
use Rattle.shell_sectors.proofs.asking.set_answer.Goals as goal

pub named_answer-requires-clause-open : goal.named_answer-requires-clause-open
named_answer-requires-clause-open g c =
    (c.args.outline, subst (OpensOutline c.args.outline) c.in-Ok-Done.field-0-is c.in-Ok-Done.ensures)

pub named_answer-requires-clause-there : goal.named_answer-requires-clause-there
named_answer-requires-clause-there g c = λ source told.
    let o : IsOpenOutline c.args.outline c.in-Ok-Done.registry c.in-Ok-Done.rest = subst (OpensOutline c.args.outline) c.in-Ok-Done.field-0-is c.in-Ok-Done.ensures in
    subst (λ (sizes : List ℕ). HasContents sizes source) (sym (ap (λ (r : OutlineRest). r.sizes) o.rest_is)) (c.requires.there source told)

pub returns-in-Ok-Done-clause-told : goal.returns-in-Ok-Done-clause-told
returns-in-Ok-Done-clause-told g c =
    let o : IsOpenOutline c.args.outline c.in-Ok-Done.registry c.in-Ok-Done.rest = subst (OpensOutline c.args.outline) c.in-Ok-Done.field-0-is c.in-Ok-Done.ensures in
    if_more _ _ c.named_answer.result (λ answer due. due c.args.outline o) c.named_answer.ensures.told

pub returns-in-Ok-Not-clause-told : goal.returns-in-Ok-Not-clause-told
returns-in-Ok-Not-clause-told g c = λ source told.
    let it : IsFaulty c.args.outline c.in-Ok-Not.report = subst (OpensOutline c.args.outline) c.in-Ok-Not.field-0-is c.in-Ok-Not.ensures in
    let contents = contents_in source (length c.args.outline.sizes) in
    it.2 ∙ fault_due c.args.outline c.args.uuid.now (asked c.args.ask) contents it.0 (it.1 contents)
