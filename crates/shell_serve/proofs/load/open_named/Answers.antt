use Rattle.std.proofs.Common.{◌≡◌, ◌∙◌, ℕ, List, [], ◌∷◌, Result, Ok, Err, ap, subst}
use Rattle.std.specs.Prelude.{IfOk}
use Rattle.namespace_areas.specs.declared.found.Found.{Found}
use Rattle.namespace_areas.specs.Finding.{found_of}
use Rattle.namespace_map.specs.declared.refused.OpRefused.{OpRefused}
use Rattle.namespace_map.specs.Namespaces.{Namespaces, lookup}
use Rattle.shell_reports.specs.declared.outcome.Report.{Report}
use Rattle.shell_reports.specs.Faults.{refusal_text, refused_outcome}
use Rattle.shell_reports.specs.Saved.{outcome_of}
use Rattle.shell_reports.proofs.More.{if_more}
use Rattle.shell_reports.proofs.Uncut.{unfound_uncut}
use Rattle.shell_serve.specs.Answering.{FindsIn, OpensAs, OpensOne}
use Rattle.shell_serve.proofs.Coming.{unclaimed_same}
use Rattle.shell_serve.proofs.Opens.{made_not, one_as}
use Rattle.shell_serve.proofs.load.open_named.Goals as goal

pub find-requires : goal.find-requires
find-requires g c = record { running = c.requires.recovered.1.fresh.running }

pub op_refused_answer-requires : goal.op_refused_answer-requires
op_refused_answer-requires g c = unfound_uncut _ _ c.in-Err.refused c.in-Err.ensures.found

pub returns-in-Ok-clause-safe : goal.returns-in-Ok-clause-safe
returns-in-Ok-clause-safe g c =
    if_more (OpensAs c.args.set.now.registry.sets (record { uuid = c.args.uuid.now; found = c.in-Ok.found } ∷ [])) (OpensOne c.args.set.now.registry.sets c.args.uuid.now) c.open_found.result
    (λ o here. one_as c.args.set.now.registry.sets c.args.uuid.now c.in-Ok.found o here) c.open_found.ensures.safe

pub returns-in-Ok-clause-told : goal.returns-in-Ok-clause-told
returns-in-Ok-clause-told g c = λ contents reveals.
    let registry = c.args.set.now.registry in
    subst (λ (r : Result Found OpRefused). IfOk c.open_found.result (FindsIn c.args.set.now.registry.sets contents c.args.uuid.now r))
    (c.in-Ok.ensures.found ∙ ap (λ (ns : Namespaces). found_of c.args.set.now.registry.sets (lookup c.args.uuid.now ns.entries)) (unclaimed_same c.args.set.now.registry c.requires.recovered.1.fresh.claims))
    (c.open_found.ensures.told contents reveals)

pub returns-in-Err-clause-safe : goal.returns-in-Err-clause-safe
returns-in-Err-clause-safe g c =
    made_not (λ (r : Report). outcome_of r ≡ refused_outcome (refusal_text c.in-Err.refused)) (OpensOne c.args.set.now.registry.sets c.args.uuid.now) c.op_refused_answer.result c.not_open.result (λ r said. tt)
    c.not_open.ensures.made c.op_refused_answer.ensures.text

pub returns-in-Err-clause-told : goal.returns-in-Err-clause-told
returns-in-Err-clause-told g c = λ contents reveals.
    subst (λ (r : Result Found OpRefused). IfOk c.not_open.result (FindsIn c.args.set.now.registry.sets contents c.args.uuid.now r))
    (c.in-Err.ensures.found ∙ ap (λ (ns : Namespaces). found_of c.args.set.now.registry.sets (lookup c.args.uuid.now ns.entries)) (unclaimed_same c.args.set.now.registry c.requires.recovered.1.fresh.claims))
    (made_not (λ (r : Report). outcome_of r ≡ refused_outcome (refusal_text c.in-Err.refused)) (FindsIn c.args.set.now.registry.sets contents c.args.uuid.now (Err c.in-Err.refused)) c.op_refused_answer.result c.not_open.result (λ r said. said)
    c.not_open.ensures.made c.op_refused_answer.ensures.text)
