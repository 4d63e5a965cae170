use Rattle.std.proofs.Common.{◌⊎◌, false, Option, Err, inl, inr, sym, ap, ◌∙◌, subst, arith}
use Rattle.nvd_media.specs.Images.{Images}
use Rattle.nvd_media.specs.Causes.{Rose}
use Rattle.shell_reports.specs.declared.status.RunStop.{RunStop}
use Rattle.shell_changes.specs.Answers.{ComesFrom}
use Rattle.shell_changes.specs.Remains.{LeavesBy}
use Rattle.shell_changes.specs.Saved.{HasContentsOf, copies_contents}
use Rattle.shell_run.specs.Run.{ComesTold, Ends, Holds, copies, streams}
use Rattle.shell_run.proofs.Comes.{session_copies}
use Rattle.shell_run.proofs.Ending.{ends_more, ends_stopped, holds_more, holds_stopped}
use Rattle.shell_run.proofs.sessions.answer_sessions.Goals as goal

pub conclude-requires-clause-there : goal.conclude-requires-clause-there
conclude-requires-clause-there g c = subst (λ (held : Option Images). HasContentsOf held c.in-Ok.answer.saved) (sym c.perform_sessions.ensures.same) c.in-Ok.ensures.there

pub returns-in-Ok-clause-ends : goal.returns-in-Ok-clause-ends
returns-in-Ok-clause-ends g c =
    let held = g.S.ImageSource.held c.args.images.now in
    let answer = c.in-Ok.answer in
    let due = ComesTold (LeavesBy g.C.Chooser.begins g.C.Chooser.picks c.args.choose.now) c.args.command held (g.T.TextSource.left c.args.script.now) in
    let made = g.K.ImageSink.made c.args.out.now in
    let made' = g.K.ImageSink.made c.conclude.new.out in
    let text = g.O.TextSink.written c.args.text.now in
    let text' = g.O.TextSink.written c.conclude.new.text in
    let before = g.S.ImageSource.faults c.args.images.now in
    let between = g.S.ImageSource.faults c.perform_sessions.new.images in
    let after = g.S.ImageSource.faults c.conclude.new.images in
    let later = c.perform_sessions.ensures.later in
    ends_more (Rose between after) (Rose before after ⊎ Rose (g.T.TextSource.faults c.args.script.now) (g.T.TextSource.faults c.perform_sessions.new.script)) (copies_contents answer.saved) (copies c.args.command) false (streams c.args.command) (ComesFrom held answer) due made made' text text' c.conclude.result (λ rose. inl (omega (arith, later, rose))) (λ copied. session_copies c.args.command c.requires.sessions) (λ never. absurd (let e = never in cc)) c.in-Ok.ensures.told
    (subst (λ (h : Option Images). Ends (Rose between after) (copies_contents answer.saved) false (ComesFrom h answer) made made' text text' c.conclude.result) c.perform_sessions.ensures.same c.conclude.ensures.ends)

pub returns-in-Err-clause-ends : goal.returns-in-Err-clause-ends
returns-in-Err-clause-ends g c =
    ends_stopped (Rose (g.S.ImageSource.faults c.args.images.now) (g.S.ImageSource.faults c.perform_sessions.new.images) ⊎ Rose (g.T.TextSource.faults c.args.script.now) (g.T.TextSource.faults c.perform_sessions.new.script)) (copies c.args.command) (streams c.args.command) (ComesTold (LeavesBy g.C.Chooser.begins g.C.Chooser.picks c.args.choose.now) c.args.command (g.S.ImageSource.held c.args.images.now) (g.T.TextSource.left c.args.script.now))
    (g.K.ImageSink.made c.args.out.now) (g.O.TextSink.written c.args.text.now) (g.O.TextSink.written c.stopped.new.text) c.stopped.result c.in-Err.stop (λ is. c.perform_sessions.ensures.failed (c.in-Err.is ∙ ap (λ (s : RunStop). Err s) is)) c.stopped.ensures.memory c.stopped.ensures.read

pub returns-in-Ok-clause-stored : goal.returns-in-Ok-clause-stored
returns-in-Ok-clause-stored g c =
    let held = g.S.ImageSource.held c.args.images.now in
    let answer = c.in-Ok.answer in
    let due = ComesTold (LeavesBy g.C.Chooser.begins g.C.Chooser.picks c.args.choose.now) c.args.command held (g.T.TextSource.left c.args.script.now) in
    let kept = g.K.ImageSink.kept c.args.out.now in
    let kept' = g.K.ImageSink.kept c.conclude.new.out in
    let text = g.O.TextSink.kept c.args.text.now in
    let text' = g.O.TextSink.kept c.conclude.new.text in
    holds_more (ComesFrom held answer) due kept kept' text text' c.conclude.result c.in-Ok.ensures.told
    (subst (λ (h : Option Images). Holds (ComesFrom h answer) kept kept' text text' c.conclude.result) c.perform_sessions.ensures.same c.conclude.ensures.stored)

pub returns-in-Err-clause-stored : goal.returns-in-Err-clause-stored
returns-in-Err-clause-stored g c =
    holds_stopped (ComesTold (LeavesBy g.C.Chooser.begins g.C.Chooser.picks c.args.choose.now) c.args.command (g.S.ImageSource.held c.args.images.now) (g.T.TextSource.left c.args.script.now))
    (g.K.ImageSink.kept c.args.out.now) (g.K.ImageSink.kept c.args.out.now) (g.O.TextSink.kept c.args.text.now) (g.O.TextSink.kept c.stopped.new.text) c.stopped.result c.in-Err.stop
    (λ is. (c.stopped.ensures.memory is).0) (λ is. elim (c.stopped.ensures.read is) [ inl w ↦ inl w.0 | inr r ↦ inr r.0 ])

pub returns-in-Ok-clause-read : goal.returns-in-Ok-clause-read
returns-in-Ok-clause-read g c = λ is.
    let later = c.perform_sessions.ensures.later in
    let rose = c.conclude.ensures.read is in
    inl (omega (arith, later, rose))
