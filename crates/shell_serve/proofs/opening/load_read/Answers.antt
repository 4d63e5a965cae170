use Rattle.std.proofs.Common.{◌≡◌, ◌∙◌, ℕ, List, Ok, Err, map, ap, subst, sym}
use Rattle.std.specs.Prelude.{IfOk}
use Rattle.sector_namespaces.specs.View.{rows_of}
use Rattle.served_namespaces.specs.declared.places.OpenedNamespace.{OpenedNamespace}
use Rattle.served_namespaces.specs.Reading.{AreHeld, IsUnbroken, opened_all}
use Rattle.shell_reports.proofs.More.{if_more}
use Rattle.shell_serve.specs.declared.opening.OpenOutcome.{OpenOutcome}
use Rattle.shell_serve.specs.Answering.{LoadsRead, NamesBroken}
use Rattle.shell_serve.proofs.Opens.{never_named}
use Rattle.shell_serve.proofs.opening.load_read.Goals as goal

pub unopened-requires : goal.unopened-requires
unopened-requires g c = λ uuid fault is. c.in-Ok-Err.ensures.uncut uuid fault (c.in-Ok-Err.field-0-is ∙ ap (λ r. Err r) is)

pub returns-in-Ok-Ok-clause-told : goal.returns-in-Ok-Ok-clause-told
returns-in-Ok-Ok-clause-told g c = λ contents reveals all.
    let told = c.in-Ok-Ok.ensures.told contents reveals all in
    subst (λ r. IfOk r (λ (opened : List OpenedNamespace). (opened ≡ opened_all c.args.sets.now contents c.args.read) × AreHeld c.args.sets.now (rows_of contents) opened)) c.in-Ok-Ok.field-0-is told.1

pub returns-in-Ok-Err-clause-told : goal.returns-in-Ok-Err-clause-told
returns-in-Ok-Err-clause-told g c = λ contents reveals all.
    let told = c.in-Ok-Err.ensures.told contents reveals all in
    if_more (NamesBroken c.in-Ok-Err.refused) (LoadsRead c.args.sets.now contents c.args.read) c.unopened.result
    (λ o named. never_named c.in-Ok-Err.refused o named (λ uuid fault is. told.0 uuid fault (c.in-Ok-Err.field-0-is ∙ ap (λ r. Err r) is))) c.unopened.ensures.names
