use Rattle.shell_changes.specs.Remains.{LeavesBy}
use Rattle.shell_serve.proofs.Causes.{serve_due}
use Rattle.shell_serve.proofs.law.serve_ends_due.Goals as goal

pub returns : goal.returns
returns g c = serve_due (LeavesBy g.C.Chooser.begins g.C.Chooser.picks c.args.choose.now c.args.seed)
