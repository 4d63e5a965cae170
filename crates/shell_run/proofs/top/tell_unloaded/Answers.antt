use Rattle.std.proofs.Common.{◌≡◌, false, inl, inr}
use Rattle.image_set.specs.declared.fault.LoadFault.TheVariants as fault
use Rattle.shell_reports.specs.declared.status.RunStop.TheVariants as stop
use Rattle.shell_run.specs.Printed.{IsReported, IsUnloaded}
use Rattle.shell_run.proofs.Comes.{reported_unloaded}
use Rattle.shell_run.proofs.Ending.{ends_stopped, holds_stopped, printing_more, stored_more}
use Rattle.shell_run.proofs.top.tell_unloaded.Goals as goal

pub returns-in-ReadFault-clause-ends : goal.returns-in-ReadFault-clause-ends
returns-in-ReadFault-clause-ends g c = λ made.
    ends_stopped (c.args.fault ≡ fault.ReadFault) false false (IsUnloaded c.args.fault) made (g.O.TextSink.written c.args.text.now) (g.O.TextSink.written c.stopped.new.text) c.stopped.result stop.ReadFault
    (λ is. c.in-ReadFault.is) c.stopped.ensures.memory c.stopped.ensures.read

pub returns-in-ReadFault-clause-stored : goal.returns-in-ReadFault-clause-stored
returns-in-ReadFault-clause-stored g c = λ kept.
    holds_stopped (IsUnloaded c.args.fault) kept kept (g.O.TextSink.kept c.args.text.now) (g.O.TextSink.kept c.stopped.new.text) c.stopped.result stop.ReadFault
    (λ is. (c.stopped.ensures.memory is).0) (λ is. elim (c.stopped.ensures.read is) [ inl w ↦ inl w.0 | inr r ↦ inr r.0 ])

pub returns-in-OutOfMemory-clause-ends : goal.returns-in-OutOfMemory-clause-ends
returns-in-OutOfMemory-clause-ends g c = λ made.
    ends_stopped (c.args.fault ≡ fault.ReadFault) false false (IsUnloaded c.args.fault) made (g.O.TextSink.written c.args.text.now) (g.O.TextSink.written c.stopped-in-OutOfMemory.new.text) c.stopped-in-OutOfMemory.result stop.OutOfMemory
    (λ is. absurd (let e = is in cc)) c.stopped-in-OutOfMemory.ensures.memory c.stopped-in-OutOfMemory.ensures.read

pub returns-in-OutOfMemory-clause-stored : goal.returns-in-OutOfMemory-clause-stored
returns-in-OutOfMemory-clause-stored g c = λ kept.
    holds_stopped (IsUnloaded c.args.fault) kept kept (g.O.TextSink.kept c.args.text.now) (g.O.TextSink.kept c.stopped-in-OutOfMemory.new.text) c.stopped-in-OutOfMemory.result stop.OutOfMemory
    (λ is. (c.stopped-in-OutOfMemory.ensures.memory is).0) (λ is. elim (c.stopped-in-OutOfMemory.ensures.read is) [ inl w ↦ inl w.0 | inr r ↦ inr r.0 ])

pub returns-in_default-clause-ends : goal.returns-in_default-clause-ends
returns-in_default-clause-ends g c = λ made.
    printing_more ⊥ (c.args.fault ≡ fault.ReadFault) false false false (IsReported c.load_answer.result) (IsUnloaded c.args.fault) made (g.O.TextSink.written c.args.text.now) (g.O.TextSink.written c.report.new.text) c.report.result
    (λ never. absurd never) (λ it. it) (λ outcome is. reported_unloaded c.load_answer.result c.args.fault outcome c.load_answer.ensures.text c.in_default.not-ReadFault c.load_answer.ensures.finding is) c.report.ensures.ends

pub returns-in_default-clause-stored : goal.returns-in_default-clause-stored
returns-in_default-clause-stored g c = λ kept.
    stored_more (IsReported c.load_answer.result) (IsUnloaded c.args.fault) kept (g.O.TextSink.kept c.args.text.now) (g.O.TextSink.kept c.report.new.text) c.report.result
    (λ outcome is. reported_unloaded c.load_answer.result c.args.fault outcome c.load_answer.ensures.text c.in_default.not-ReadFault c.load_answer.ensures.finding is) c.report.ensures.stored
