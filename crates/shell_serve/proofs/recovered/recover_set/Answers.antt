use Rattle.std.proofs.Common.{subst}
use Rattle.shell_sectors.specs.Opening.{IsFaulty, IsOpenOutline, OpensOutline}
use Rattle.shell_serve.proofs.Recovering.{fault_found, is_recovered, was_fresh}
use Rattle.shell_serve.proofs.recovered.recover_set.Goals as goal

pub recover-requires-clause-running : goal.recover-requires-clause-running
recover-requires-clause-running c =
    let o : IsOpenOutline c.args.outline c.in-Done.registry c.in-Done.rest = subst (OpensOutline c.args.outline) c.in-Done.is c.in_ok-registry.ensures in
    o.running

pub recover-requires-clause-first : goal.recover-requires-clause-first
recover-requires-clause-first c =
    let o : IsOpenOutline c.args.outline c.in-Done.registry c.in-Done.rest = subst (OpensOutline c.args.outline) c.in-Done.is c.in_ok-registry.ensures in
    (was_fresh c.args.outline c.requires.sound c.in-Done.registry c.in-Done.rest o).journal

pub returns-in-Done : goal.returns-in-Done
returns-in-Done c =
    let o : IsOpenOutline c.args.outline c.in-Done.registry c.in-Done.rest = subst (OpensOutline c.args.outline) c.in-Done.is c.in_ok-registry.ensures in
    is_recovered c.args.outline c.requires.sound c.in-Done.registry c.in-Done.rest o c.recover.result c.recover.ensures

pub returns-in-Not : goal.returns-in-Not
returns-in-Not c =
    let it : IsFaulty c.args.outline c.in-Not.report = subst (OpensOutline c.args.outline) c.in-Not.is c.in_ok-registry.ensures in
    (it.0, fault_found c.args.outline c.requires.sound it.0 it.3, it.2)
