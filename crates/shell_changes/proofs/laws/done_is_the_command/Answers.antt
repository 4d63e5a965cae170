use Rattle.shell_changes.specs.Remains.{LeavesBy}
use Rattle.shell_changes.proofs.Maps.{done_is}
use Rattle.shell_changes.proofs.laws.done_is_the_command.Goals as goal

pub returns : goal.returns
returns g c = done_is (LeavesBy g.C.Chooser.begins g.C.Chooser.picks c.args.choose.now)
