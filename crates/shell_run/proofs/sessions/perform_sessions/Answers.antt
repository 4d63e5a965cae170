use Rattle.std.proofs.Common.{◌∙◌, inl, refl, sym, ap, subst}
use Rattle.std.specs.Prelude.{IfOk}
use Rattle.shell_changes.specs.declared.answer.Answer.{Answer}
use Rattle.shell_changes.specs.Answers.{ComesFrom}
use Rattle.shell_changes.specs.Remains.{LeavesBy}
use Rattle.shell_reports.specs.Outcome.{Outcome}
use Rattle.shell_run.specs.declared.words.CommandLine.{CommandLine}
use Rattle.shell_run.specs.declared.words.CommandLine.TheVariants.{Load}
use Rattle.shell_run.specs.Run.{ComesTold, reads_script}
use Rattle.shell_run.specs.Words.{HasGoodValues}
use Rattle.shell_run.proofs.Comes.{plain_due}
use Rattle.shell_run.proofs.sessions.perform_sessions.Goals as goal

pub perform_load-requires-clause-workers : goal.perform_load-requires-clause-workers
perform_load-requires-clause-workers g c = λ κs lives. (subst HasGoodValues c.in-Load.is c.requires.good).1

pub perform_load-requires-clause-some : goal.perform_load-requires-clause-some
perform_load-requires-clause-some g c = λ κs lives. (subst HasGoodValues c.in-Load.is c.requires.good).0

pub returns-in-Load-clause-told : goal.returns-in-Load-clause-told
returns-in-Load-clause-told g c =
    let leaves = LeavesBy g.C.Chooser.begins g.C.Chooser.picks c.args.choose.now in
    let held = g.S.ImageSource.held c.args.images.now in
    let left = g.T.TextSource.left c.args.script.now in
    subst (λ (command : CommandLine). IfOk c.perform_load.result (λ (answer : Answer). (outcome : Outcome) → ComesFrom held answer outcome → ComesTold leaves command held left outcome)) (sym c.in-Load.is)
    (plain_due leaves held left (Load c.in-Load.work c.in-Load.workers) c.perform_load.result refl refl c.perform_load.ensures.told)

pub returns-in-Load-clause-failed : goal.returns-in-Load-clause-failed
returns-in-Load-clause-failed g c = λ e. inl (c.perform_load.ensures.failed e)

pub returns-in-Serve-clause-unread : goal.returns-in-Serve-clause-unread
returns-in-Serve-clause-unread g c = λ no.
    let both = sym no ∙ ap reads_script c.in-Serve.is in
    absurd (let e = both in cc)
