use Rattle.shell_changes.specs.Remains.{LeavesBy}
use Rattle.shell_changes.proofs.Maps.{crash_leaves}
use Rattle.shell_changes.proofs.laws.crash_leaves_others.Goals as goal

pub returns : goal.returns
returns g c = crash_leaves (LeavesBy g.C.Chooser.begins g.C.Chooser.picks c.args.choose.now)
