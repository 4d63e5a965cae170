use Rattle.std.proofs.Common.{◌∙◌, subst}
use Rattle.shell_reports.proofs.More.{if_more}
use Rattle.shell_sectors.specs.Opening.{IsFaulty, IsOpenOutline, OpensOutline}
use Rattle.shell_import.specs.Beginning.{Begins}
use Rattle.shell_import.proofs.RawImport.{faulty}
use Rattle.shell_import.proofs.beginning.begin_import.Goals as goal

pub begin_named-requires : goal.begin_named-requires
begin_named-requires c = (c.args.outline, subst (OpensOutline c.args.outline) c.in-Done.is c.in_ok-opened.ensures)

pub returns-in-Done : goal.returns-in-Done
returns-in-Done c =
    let o : IsOpenOutline c.args.outline c.in-Done.registry c.in-Done.rest = subst (OpensOutline c.args.outline) c.in-Done.is c.in_ok-opened.ensures in
    if_more _ (Begins c.args.uuid.now c.args.bytes.items c.args.outline) c.begin_named.result (λ begun begins. begins c.args.outline o) c.begin_named.ensures

pub returns-in-Not : goal.returns-in-Not
returns-in-Not c =
    let it : IsFaulty c.args.outline c.in-Not.report = subst (OpensOutline c.args.outline) c.in-Not.is c.in_ok-opened.ensures in
    faulty c.args.outline c.args.uuid.now c.args.bytes.items it.0 _ it.1 c.without_set.ensures.saved (λ contents. c.without_set.ensures.same contents ∙ it.2)
