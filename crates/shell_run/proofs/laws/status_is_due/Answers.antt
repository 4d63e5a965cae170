use Rattle.shell_changes.specs.Remains.{LeavesBy}
use Rattle.shell_run.proofs.Causes.{status_due}
use Rattle.shell_run.proofs.laws.status_is_due.Goals as goal

pub returns : goal.returns
returns g c = status_due (LeavesBy g.C.Chooser.begins g.C.Chooser.picks c.args.choose.now)
