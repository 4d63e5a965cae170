use Rattle.std.proofs.Common.{◌≡◌, ℕ, List, None}
use Rattle.shell_changes.specs.declared.answer.Answer.{Answer}
use Rattle.shell_changes.specs.Answers.{outcome_with}
use Rattle.shell_run.specs.Scripts.{script_outcome}
use Rattle.shell_run.proofs.Comes.{if_same, report_is}
use Rattle.shell_run.proofs.top.misread.Goals as goal

pub returns-clause-text : goal.returns-clause-text
returns-clause-text c =
    if_same (λ (answer : Answer). (contents : List (List ℕ)) → outcome_with answer contents ≡ script_outcome c.args.why) c.in_memory.result c.reported.result c.in_memory.ensures.same
    (report_is c.script_answer.result c.reported.result (script_outcome c.args.why) c.reported.ensures.same c.reported.ensures.saved c.script_answer.ensures.text)

pub returns-clause-saved : goal.returns-clause-saved
returns-clause-saved c = if_same (λ (answer : Answer). answer.saved ≡ None) c.in_memory.result c.reported.result c.in_memory.ensures.same c.reported.ensures.saved
