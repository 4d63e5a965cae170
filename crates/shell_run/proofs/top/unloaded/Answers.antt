use Rattle.std.proofs.Common.{◌≡◌, ◌≢◌, ℕ, List, None, Result, Ok, Err}
use Rattle.std.specs.Prelude.{IfOk}
use Rattle.image_set.specs.declared.fault.LoadFault.TheVariants as fault
use Rattle.shell_reports.specs.LoadFaults.{load_outcome}
use Rattle.shell_changes.specs.declared.answer.Answer.{Answer}
use Rattle.shell_changes.specs.Answers.{outcome_with}
use Rattle.shell_run.proofs.Comes.{if_same, report_is}
use Rattle.shell_run.proofs.top.unloaded.Goals as goal

always : {A E : Type 0} (P : Type 0) (r : Result A E) → P → IfOk r (λ _. P)
always P (Ok x) p = p
always P (Err e) p = tt

pub returns-in_default-clause-source : goal.returns-in_default-clause-source
returns-in_default-clause-source c = always (c.args.fault ≢ fault.ReadFault) c.in_memory.result c.in_default.not-ReadFault

pub returns-in_default-clause-text : goal.returns-in_default-clause-text
returns-in_default-clause-text c =
    if_same (λ (answer : Answer). (contents : List (List ℕ)) → outcome_with answer contents ≡ load_outcome c.args.fault) c.in_memory.result c.reported.result c.in_memory.ensures.same
    (report_is c.load_answer.result c.reported.result (load_outcome c.args.fault) c.reported.ensures.same c.reported.ensures.saved c.load_answer.ensures.text)

pub returns-in_default-clause-saved : goal.returns-in_default-clause-saved
returns-in_default-clause-saved c = if_same (λ (answer : Answer). answer.saved ≡ None) c.in_memory.result c.reported.result c.in_memory.ensures.same c.reported.ensures.saved
