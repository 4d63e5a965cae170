use Rattle.shell_run.proofs.InitLeaves.{init_leaves}
use Rattle.shell_run.proofs.laws.init_leaves_whole.Goals as goal

pub returns : goal.returns
returns g c = init_leaves g.C.Chooser.begins g.C.Chooser.picks c.args.choose.now
