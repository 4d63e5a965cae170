use Rattle.std.proofs.Common.{refl}
use Rattle.std.specs.Prelude.{IsTrue}
use Rattle.shell_reports.proofs.More.{if_more}
use Rattle.shell_changes.specs.declared.answer.Answer.{Answer}
use Rattle.shell_changes.specs.Remains.{LeavesBy}
use Rattle.shell_changes.specs.Saved.{HasContentsOf, copies_contents}
use Rattle.shell_changes.proofs.Remains.{copies_none}
use Rattle.shell_run.specs.declared.words.CommandLine.TheVariants.{Replay}
use Rattle.shell_run.specs.Run.{copies}
use Rattle.shell_run.proofs.Comes.{if_all, misread_due, none_copied, read_due, whole_there}
use Rattle.shell_run.proofs.top.perform_replay.Goals as goal

pub returns-in-Ok-clause-told : goal.returns-in-Ok-clause-told
returns-in-Ok-clause-told g c =
    read_due (LeavesBy g.C.Chooser.begins g.C.Chooser.picks c.args.choose.now) (g.S.ImageSource.held c.args.images.now) (g.T.TextSource.left c.args.script.now)
    c.args.uuid c.args.seed (record { lines = c.in-Ok.replay.lines; seed = c.args.seed }) c.in-Ok.replay c.replay_outlined.result refl c.in-Ok.ensures.read c.replay_outlined.ensures.told

pub returns-in-Err-Refused-clause-told : goal.returns-in-Err-Refused-clause-told
returns-in-Err-Refused-clause-told g c =
    misread_due (LeavesBy g.C.Chooser.begins g.C.Chooser.picks c.args.choose.now) (g.S.ImageSource.held c.args.images.now) (g.T.TextSource.left c.args.script.now)
    c.args.uuid c.args.seed c.in-Err-Refused.why c.misread.result (c.read_schedule.ensures.refused c.in-Err-Refused.why (rw c.in-Err-Refused.field-0-is at c.in-Err-Refused.is)) (rw c.in-Err-Refused.field-0-is at c.misread.ensures.text) c.misread.ensures.saved

pub returns-in-Ok-clause-copying : goal.returns-in-Ok-clause-copying
returns-in-Ok-clause-copying g c = if_all (λ (answer : Answer). IsTrue (copies_contents answer.saved) → IsTrue (copies (Replay c.args.uuid c.args.seed))) c.replay_outlined.result (λ answer copied. refl)

pub returns-in-Err-Refused-clause-copying : goal.returns-in-Err-Refused-clause-copying
returns-in-Err-Refused-clause-copying g c =
    if_more _ (λ (answer : Answer). IsTrue (copies_contents answer.saved) → IsTrue (copies (Replay c.args.uuid c.args.seed))) c.misread.result
    (λ answer none. none_copied answer.saved (IsTrue (copies (Replay c.args.uuid c.args.seed))) (copies_none answer none)) c.misread.ensures.saved

pub returns-in-Err-Refused-clause-there : goal.returns-in-Err-Refused-clause-there
returns-in-Err-Refused-clause-there g c =
    let held = g.S.ImageSource.held c.args.images.now in
    if_more (λ (answer : Answer). _) (λ (answer : Answer). HasContentsOf held answer.saved) c.misread.result (λ answer none. whole_there held answer.saved (copies_none answer none)) c.misread.ensures.saved
