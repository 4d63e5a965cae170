use Rattle.std.proofs.Common.{◌∙◌, subst}
use Rattle.shell_changes.specs.Remains.{LeavesBy}
use Rattle.shell_sectors.specs.Opening.{IsFaulty, OpensOutline}
use Rattle.shell_replay.proofs.Coming.{faulty}
use Rattle.shell_replay.proofs.replay.replay_answer.Goals as goal

pub returns-in-Ok-Not-clause-comes : goal.returns-in-Ok-Not-clause-comes
returns-in-Ok-Not-clause-comes g c =
    let it : IsFaulty c.args.outline c.in-Ok-Not.report = subst (OpensOutline c.args.outline) c.in-Ok-Not.field-0-is c.in-Ok-Not.ensures in
    faulty (LeavesBy g.C.Chooser.begins g.C.Chooser.picks c.args.choose.now) c.args.schedule.now c.args.uuid.now c.args.outline (g.S.ImageSource.held c.args.images.now) it.0 c.without_set.result it.1
    c.without_set.ensures.saved (λ contents. c.without_set.ensures.same contents ∙ it.2)
