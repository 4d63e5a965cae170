use Rattle.std.proofs.Common.{false, refl}
use Rattle.shell_reports.specs.Outcome.{usage}
use Rattle.shell_run.specs.Printed.{IsMisused, IsReported}
use Rattle.shell_run.proofs.Comes.{reported_is}
use Rattle.shell_run.proofs.Ending.{ends_memory, printing_more, stored_more}
use Rattle.shell_run.proofs.top.misused.Goals as goal

pub returns-in-Usage-clause-ends : goal.returns-in-Usage-clause-ends
returns-in-Usage-clause-ends g c = λ made.
    printing_more ⊥ ⊥ false false false (IsReported c.usage_answer.result) (IsMisused c.args.fault) made (g.O.TextSink.written c.args.text.now) (g.O.TextSink.written c.report.new.text) c.report.result
    (λ never. never) (λ it. it) (λ outcome is. (c.in-Usage.is, reported_is c.usage_answer.result usage outcome c.usage_answer.ensures is)) c.report.ensures.ends

pub returns-in-Usage-clause-stored : goal.returns-in-Usage-clause-stored
returns-in-Usage-clause-stored g c = λ kept.
    stored_more (IsReported c.usage_answer.result) (IsMisused c.args.fault) kept (g.O.TextSink.kept c.args.text.now) (g.O.TextSink.kept c.report.new.text) c.report.result
    (λ outcome is. (c.in-Usage.is, reported_is c.usage_answer.result usage outcome c.usage_answer.ensures is)) c.report.ensures.stored

pub returns-in-OutOfMemory-clause-ends : goal.returns-in-OutOfMemory-clause-ends
returns-in-OutOfMemory-clause-ends g c = λ made. ends_memory ⊥ false false (IsMisused c.args.fault) made (g.O.TextSink.written c.args.text.now) (g.O.TextSink.written c.args.text.now) _ refl refl

pub returns-in-OutOfMemory-clause-stored : goal.returns-in-OutOfMemory-clause-stored
returns-in-OutOfMemory-clause-stored g c = λ kept. tt
