use Rattle.std.proofs.Common.{◌≡◌, ◌++◌, ℕ, false, List, refl, subst}
use Rattle.std.specs.Io.KnownBytes.{Appends}
use Rattle.nvd_media.specs.Images.{Keeps}
use Rattle.shell_reports.specs.Saved.{outcome_of}
use Rattle.shell_run.specs.Printed.{IsReported}
use Rattle.shell_run.specs.Run.{AppendsPart}
use Rattle.shell_run.proofs.Ending.{ends_memory, ends_printed, holds_printed}
use Rattle.shell_run.proofs.top.report.Goals as goal

pub returns-in-Ok-clause-ends : goal.returns-in-Ok-clause-ends
returns-in-Ok-clause-ends g c = λ made.
    let before = g.O.TextSink.written c.args.text.now in
    let after = g.O.TextSink.written c.printed.new.text in
    let bytes = c.deref.ensures.value in
    ends_printed ⊥ false false (IsReported c.args.report) made made before after (outcome_of c.in-Ok.report) (c.in-Ok.report, c.in-Ok.is, refl) refl c.printed.result
    (λ same. subst (λ (xs : List ℕ). Appends before after xs) bytes (c.printed.ensures.all same))
    (λ other. ((c.printed.ensures.part other).0, subst (λ (xs : List ℕ). AppendsPart before after xs) bytes (c.printed.ensures.part other).1))

pub returns-in-Err-clause-ends : goal.returns-in-Err-clause-ends
returns-in-Err-clause-ends g c = λ made. ends_memory ⊥ false false (IsReported c.args.report) made (g.O.TextSink.written c.args.text.now) (g.O.TextSink.written c.args.text.now) _ refl refl

pub returns-in-Ok-clause-stored : goal.returns-in-Ok-clause-stored
returns-in-Ok-clause-stored g c = λ kept.
    let before = g.O.TextSink.kept c.args.text.now in
    let after = g.O.TextSink.kept c.printed.new.text in
    let bytes = c.deref.ensures.value in
    holds_printed (IsReported c.args.report) kept kept before after (outcome_of c.in-Ok.report) (c.in-Ok.report, c.in-Ok.is, refl) refl c.printed.result
    (λ same. subst (λ (xs : List ℕ). Keeps before after (λ was now. now ≡ was ++ xs)) bytes (c.printed.ensures.stored same)) (λ other. (c.printed.ensures.part other).0)

pub returns-in-Err-clause-stored : goal.returns-in-Err-clause-stored
returns-in-Err-clause-stored g c = λ kept. tt
