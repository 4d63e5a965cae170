use Rattle.std.proofs.Common.{ℕ, true, false, List, Option, Ok, Err, inl, inr, ap, ◌∙◌, subst}
use Rattle.nvd_media.specs.Causes.{Rose}
use Rattle.shell_reports.specs.declared.status.RunStop.{RunStop}
use Rattle.shell_reports.specs.declared.status.Status.{Status}
use Rattle.shell_run.specs.Printed.{StreamsFrom}
use Rattle.shell_run.specs.Run.{Ends}
use Rattle.shell_run.proofs.Ending.{ends_stopped, holds_stopped, streamed_ends, streamed_holds}
use Rattle.shell_run.proofs.top.stream_or_stop.Goals as goal

pub returns-in-Ok-clause-ends : goal.returns-in-Ok-clause-ends
returns-in-Ok-clause-ends g c =
    streamed_ends (Rose (g.S.ImageSource.faults c.args.images.now) (g.S.ImageSource.faults c.stream_outlined.new.images)) (StreamsFrom c.args.what (g.S.ImageSource.held c.args.images.now) c.args.outline)
    (g.O.TextSink.written c.args.text.now) (g.O.TextSink.written c.stream_outlined.new.text) (g.O.TextSink.kept c.args.text.now) (g.O.TextSink.kept c.stream_outlined.new.text) c.in-Ok.status
    (λ is. c.stream_outlined.ensures.read (c.in-Ok.is ∙ ap (λ (s : Status). Ok s) is)) c.in-Ok.ensures.printed

pub returns-in-Ok-clause-stored : goal.returns-in-Ok-clause-stored
returns-in-Ok-clause-stored g c =
    streamed_holds (StreamsFrom c.args.what (g.S.ImageSource.held c.args.images.now) c.args.outline)
    (g.O.TextSink.written c.args.text.now) (g.O.TextSink.written c.stream_outlined.new.text) (g.O.TextSink.kept c.args.text.now) (g.O.TextSink.kept c.stream_outlined.new.text) c.in-Ok.status c.in-Ok.ensures.printed

pub returns-in-Err-clause-ends : goal.returns-in-Err-clause-ends
returns-in-Err-clause-ends g c = λ made.
    subst (λ (text : Option (List ℕ)). Ends (Rose (g.S.ImageSource.faults c.args.images.now) (g.S.ImageSource.faults c.stream_outlined.new.images)) false true
    (StreamsFrom c.args.what (g.S.ImageSource.held c.args.images.now) c.args.outline) made made text (g.O.TextSink.written c.stopped.new.text) c.stopped.result)
    c.in-Err.ensures.nothing
    (ends_stopped (Rose (g.S.ImageSource.faults c.args.images.now) (g.S.ImageSource.faults c.stream_outlined.new.images)) false true (StreamsFrom c.args.what (g.S.ImageSource.held c.args.images.now) c.args.outline)
    made (g.O.TextSink.written c.stream_outlined.new.text) (g.O.TextSink.written c.stopped.new.text) c.stopped.result c.in-Err.stop
    (λ is. c.stream_outlined.ensures.before (c.in-Err.is ∙ ap (λ (s : RunStop). Err s) is)) c.stopped.ensures.memory c.stopped.ensures.read)

pub returns-in-Err-clause-stored : goal.returns-in-Err-clause-stored
returns-in-Err-clause-stored g c = λ kept.
    holds_stopped (StreamsFrom c.args.what (g.S.ImageSource.held c.args.images.now) c.args.outline) kept kept (g.O.TextSink.kept c.args.text.now) (g.O.TextSink.kept c.stopped.new.text) c.stopped.result c.in-Err.stop
    (λ is. (c.stopped.ensures.memory is).0) (λ is. elim (c.stopped.ensures.read is) [ inl w ↦ inl w.0 | inr r ↦ inr r.0 ])

pub returns-in-Err-clause-failed : goal.returns-in-Err-clause-failed
returns-in-Err-clause-failed g c = λ is.
    subst (λ (n : ℕ). Rose n (g.O.TextSink.faults c.stopped.new.text)) c.in-Err.ensures.quiet (c.stopped.ensures.failed is)
