use Rattle.shell_serve.proofs.Empty.{empty_serves}
use Rattle.shell_serve.proofs.law.empty_serves.Goals as goal

pub returns : goal.returns
returns g c = empty_serves g.C.Chooser.begins g.C.Chooser.picks c.args.choose.now
