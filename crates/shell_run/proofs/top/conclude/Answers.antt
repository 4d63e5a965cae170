use Rattle.std.proofs.Common.{◌≡◌, ◌++◌, ℕ, false, List, Err, refl, subst, inl}
use Rattle.std.specs.Io.KnownBytes.{Appends}
use Rattle.nvd_media.specs.Causes.{Rose}
use Rattle.nvd_media.specs.Images.{Keeps}
use Rattle.image_set.specs.declared.fault.CopyFault.{CopyFault}
use Rattle.shell_changes.specs.Answers.{ComesFrom}
use Rattle.shell_changes.specs.Saved.{copies_contents}
use Rattle.shell_run.specs.Run.{AppendsPart}
use Rattle.shell_run.proofs.Ending.{ends_printed, ends_unread, holds_printed, keeps_here}
use Rattle.shell_run.proofs.Comes.{some_copied, some_due}
use Rattle.shell_run.proofs.top.conclude.Goals as goal

pub returns-in-Ok-clause-ends : goal.returns-in-Ok-clause-ends
returns-in-Ok-clause-ends g c =
    let held = g.S.ImageSource.held c.args.images.now in
    let before = g.O.TextSink.written c.args.text.now in
    let after = g.O.TextSink.written c.printed.new.text in
    let answer = c.args.answer in
    let saved = c.in-Ok.ensures.saved in
    let bytes = c.deref.ensures.value in
    ends_printed (Rose (g.S.ImageSource.faults c.args.images.now) (g.S.ImageSource.faults c.save_if.new.images)) (copies_contents answer.saved) false (ComesFrom held answer) (g.K.ImageSink.made c.args.out.now) (g.K.ImageSink.made c.save_if.new.out) before after
    (record { ending = answer.report.ending; text = answer.report.text.items; saved = saved.0 }) (record { ends = refl; says = refl; saves = saved.1 }) saved.2 c.printed.result
    (λ same. subst (λ (xs : List ℕ). Appends before after xs) bytes (c.printed.ensures.all same))
    (λ other. ((c.printed.ensures.part other).0, subst (λ (xs : List ℕ). AppendsPart before after xs) bytes (c.printed.ensures.part other).1))

pub returns-in-Err-ReadFault-clause-ends : goal.returns-in-Err-ReadFault-clause-ends
returns-in-Err-ReadFault-clause-ends g c =
    let held = g.S.ImageSource.held c.args.images.now in
    let answer = c.args.answer in
    let unread = c.save_if.ensures.unread (subst (λ (fault : CopyFault). c.save_if.result ≡ Err fault) c.in-Err-ReadFault.field-0-is c.in-Err-ReadFault.is) in
    let due = some_due held answer (some_copied answer.saved unread.0) in
    ends_unread (Rose (g.S.ImageSource.faults c.args.images.now) (g.S.ImageSource.faults c.save_if.new.images)) (copies_contents answer.saved) false (ComesFrom held answer) (g.K.ImageSink.made c.args.out.now) (g.K.ImageSink.made c.save_if.new.out) (g.O.TextSink.written c.args.text.now) (g.O.TextSink.written c.stopped.new.text)
    c.stopped.result due.0 (c.save_if.ensures.outside.read (subst (λ (fault : CopyFault). c.save_if.result ≡ Err fault) c.in-Err-ReadFault.field-0-is c.in-Err-ReadFault.is)) unread.0 due.1 due.2 unread.1 (c.stopped.ensures.read refl)

pub returns-in-Err-WriteFault-clause-ends : goal.returns-in-Err-WriteFault-clause-ends
returns-in-Err-WriteFault-clause-ends g c =
    let unwritten = c.save_if.ensures.unwritten (subst (λ (fault : CopyFault). c.save_if.result ≡ Err fault) c.in-Err-WriteFault.field-0-is c.in-Err-WriteFault.is) in
    let due = some_due (g.S.ImageSource.held c.args.images.now) c.args.answer unwritten.0 in
    inl (due.0, due.1, due.2, unwritten.1, keeps_here (g.O.TextSink.written c.args.text.now))

pub returns-in-Ok-clause-stored : goal.returns-in-Ok-clause-stored
returns-in-Ok-clause-stored g c =
    let held = g.S.ImageSource.held c.args.images.now in
    let before = g.O.TextSink.kept c.args.text.now in
    let after = g.O.TextSink.kept c.printed.new.text in
    let answer = c.args.answer in
    let saved = c.in-Ok.ensures.saved in
    let bytes = c.deref.ensures.value in
    holds_printed (ComesFrom held answer) (g.K.ImageSink.kept c.args.out.now) (g.K.ImageSink.kept c.save_if.new.out) before after
    (record { ending = answer.report.ending; text = answer.report.text.items; saved = saved.0 }) (record { ends = refl; says = refl; saves = saved.1 }) saved.3 c.printed.result
    (λ same. subst (λ (xs : List ℕ). Keeps before after (λ was now. now ≡ was ++ xs)) bytes (c.printed.ensures.stored same)) (λ other. (c.printed.ensures.part other).0)
