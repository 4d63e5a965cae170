use Rattle.shell_changes.specs.Remains.{LeavesBy}
use Rattle.shell_changes.proofs.Maps.{crash_recovers}
use Rattle.shell_changes.proofs.laws.crash_recovers.Goals as goal

pub returns : goal.returns
returns g c = crash_recovers (LeavesBy g.C.Chooser.begins g.C.Chooser.picks c.args.choose.now)
