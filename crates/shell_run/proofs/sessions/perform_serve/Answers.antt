use Rattle.shell_reports.proofs.More.{if_more}
use Rattle.shell_changes.specs.Remains.{LeavesBy}
use Rattle.shell_changes.proofs.Remains.{copies_none}
use Rattle.shell_changes.specs.declared.answer.Answer.{Answer}
use Rattle.shell_changes.specs.Saved.{HasContentsOf}
use Rattle.shell_run.proofs.Comes.{misread_sessions_due, sessions_due, whole_there}
use Rattle.shell_run.proofs.sessions.perform_serve.Goals as goal

pub returns-in-Ok-clause-told : goal.returns-in-Ok-clause-told
returns-in-Ok-clause-told g c =
    sessions_due (LeavesBy g.C.Chooser.begins g.C.Chooser.picks c.args.choose.now) (g.S.ImageSource.held c.args.images.now) (g.T.TextSource.left c.args.script.now)
    c.args.running c.in-Ok.lines c.serve_outlined.result c.in-Ok.ensures.read c.serve_outlined.ensures.told

pub returns-in-Err-Refused-clause-told : goal.returns-in-Err-Refused-clause-told
returns-in-Err-Refused-clause-told g c =
    misread_sessions_due (LeavesBy g.C.Chooser.begins g.C.Chooser.picks c.args.choose.now) (g.S.ImageSource.held c.args.images.now) (g.T.TextSource.left c.args.script.now)
    c.args.running c.in-Err-Refused.why c.misread.result (c.read_sessions.ensures.refused c.in-Err-Refused.why (rw c.in-Err-Refused.field-0-is at c.in-Err-Refused.is)) (rw c.in-Err-Refused.field-0-is at c.misread.ensures.text) c.misread.ensures.saved

pub returns-in-Err-Refused-clause-there : goal.returns-in-Err-Refused-clause-there
returns-in-Err-Refused-clause-there g c =
    let held = g.S.ImageSource.held c.args.images.now in
    if_more (λ (answer : Answer). _) (λ (answer : Answer). HasContentsOf held answer.saved) c.misread.result (λ answer none. whole_there held answer.saved (copies_none answer none)) c.misread.ensures.saved
