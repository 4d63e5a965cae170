use Rattle.std.proofs.Common.{◌≡◌, sym, subst}
use Rattle.std.specs.Prelude.{IfOk}
use Rattle.served_namespaces.specs.declared.places.NotOpened.{NotOpened}
use Rattle.served_namespaces.specs.declared.places.NotOpened.TheVariants.{Broken}
use Rattle.shell_reports.specs.declared.outcome.Report.{Report}
use Rattle.shell_reports.specs.Faults.{arena_outcome}
use Rattle.shell_reports.specs.Saved.{outcome_of}
use Rattle.shell_serve.specs.Answering.{NamesBroken}
use Rattle.shell_serve.proofs.Opens.{made_not}
use Rattle.shell_serve.proofs.opening.unopened.Goals as goal

pub arena_answer-requires : goal.arena_answer-requires
arena_answer-requires c = c.requires c.in-Broken.uuid c.in-Broken.fault c.in-Broken.is

pub returns-in-Broken-clause-names : goal.returns-in-Broken-clause-names
returns-in-Broken-clause-names c =
    subst (λ (refused : NotOpened). IfOk c.not_open.result (NamesBroken refused)) (sym c.in-Broken.is)
    (made_not (λ (r : Report). outcome_of r ≡ arena_outcome c.in-Broken.uuid c.in-Broken.fault) (NamesBroken (Broken c.in-Broken.uuid c.in-Broken.fault)) c.arena_answer.result c.not_open.result (λ r said. said) c.not_open.ensures.made c.arena_answer.ensures.text)
