use Rattle.std.proofs.Common.{ℕ, List, subst}
use Rattle.shell_reports.specs.declared.status.Ending.TheVariants as ending
use Rattle.shell_reports.proofs.More.{if_more}
use Rattle.shell_changes.specs.declared.answer.Answer.{Answer}
use Rattle.shell_changes.specs.Remains.{AnswersDone, SavesLeft}
use Rattle.shell_changes.proofs.saving.done_answer.Goals as goal

pub returns : goal.returns
returns g c =
    let picks = g.C.Chooser.picks in
    if_more (λ (answer : Answer). SavesLeft picks ending.Done c.in_ok-text.text.items c.args.remains answer c.args.choose.now c.saved_answer.new.choose)
    (λ (answer : Answer). AnswersDone picks c.args.remains c.args.choose.now answer) c.saved_answer.result
    (λ answer saved. record {
      after = c.saved_answer.new.choose;
      saved = subst (λ (text : List ℕ). SavesLeft picks ending.Done text c.args.remains answer c.args.choose.now c.saved_answer.new.choose) c.in_ok-text.ensures.items saved;
    })
    c.saved_answer.ensures
