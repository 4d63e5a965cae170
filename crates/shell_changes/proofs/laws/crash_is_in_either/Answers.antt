use Rattle.shell_changes.specs.Remains.{LeavesBy}
use Rattle.shell_changes.proofs.Maps.{crash_is}
use Rattle.shell_changes.proofs.laws.crash_is_in_either.Goals as goal

pub returns : goal.returns
returns g c = crash_is (LeavesBy g.C.Chooser.begins g.C.Chooser.picks c.args.choose.now)
