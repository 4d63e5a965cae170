use Rattle.std.proofs.Common.{ℕ, List, Vec, Global, ◌∙◌, ap, subst}
use Rattle.shell_reports.specs.declared.status.Ending.TheVariants as ending
use Rattle.shell_reports.proofs.More.{if_more}
use Rattle.shell_changes.specs.declared.answer.Answer.{Answer}
use Rattle.shell_changes.specs.Remains.{AnswersCut, SavesLeft}
use Rattle.shell_changes.proofs.saving.cut_answer.Goals as goal

pub returns : goal.returns
returns g c =
    let picks = g.C.Chooser.picks in
    let begun = c.begin.new.self in
    let after = c.saved_answer.new.choose in
    if_more (λ (answer : Answer). SavesLeft picks ending.PowerCut c.into_bytes.result.items c.args.remains answer begun after)
    (λ (answer : Answer). AnswersCut g.C.Chooser.begins picks c.args.power c.args.remains c.args.choose.now answer) c.saved_answer.result
    (λ answer saved. record {
      begun = c.begin.new.self;
      after = c.saved_answer.new.choose;
      begins_so = c.begin.ensures;
      steps = c.steps_of.result;
      given = c.steps_of.ensures;
      saved = subst (λ (text : List ℕ). SavesLeft picks ending.PowerCut text c.args.remains answer begun after) (ap (λ (v : Vec ℕ Global). v.items) c.into_bytes.ensures.value ∙ c.in_ok-text.ensures) saved;
    })
    c.saved_answer.ensures
