use Rattle.std.proofs.Common.{◌∙◌, Result, IfOk, sym, subst}
use Rattle.namespace_areas.specs.Finding.{LiesInSet}
use Rattle.namespace_areas.specs.declared.found.Found.{Found}
use Rattle.namespace_map.specs.declared.refused.OpRefused.{OpRefused}
use Rattle.image_set.specs.declared.outline.Outline.{Outline}
use Rattle.shell_export.proofs.Unplaced.{unplaced_uncut}
use Rattle.shell_reports.proofs.More.{if_more}
use Rattle.shell_sectors.specs.Opening.{IsOpenOutline}
use Rattle.shell_import.specs.Beginning.{IsPlacedOn}
use Rattle.shell_import.proofs.RawImport.{unplaced}
use Rattle.shell_import.proofs.beginning.begin_named.Goals as goal

pub find_place-requires-clause-running : goal.find_place-requires-clause-running
find_place-requires-clause-running c = c.requires.1.running

pub find_place-requires-clause-held : goal.find_place-requires-clause-held
find_place-requires-clause-held c = c.requires.1.held

pub op_refused_answer-requires : goal.op_refused_answer-requires
op_refused_answer-requires c = unplaced_uncut _ _ c.in-Err.refused (sym c.in-Err.is ∙ c.in_ok-found.ensures.place)

placed : (c : goal.After-begin_found) (outline : Outline) → IsOpenOutline outline c.args.registry c.args.rest → IsPlacedOn outline c.args.uuid.now c.in-Ok.found c.args.registry c.args.rest
placed c outline o = record {
  parts = o;
  place = sym c.in_ok-found.ensures.place ∙ c.in-Ok.is;
  lies = subst (λ (r : Result Found OpRefused). IfOk r (LiesInSet c.args.registry.sets)) c.in-Ok.is c.in_ok-found.ensures.lies;
}

pub begin_found-requires : goal.begin_found-requires
begin_found-requires c = (
  c.requires.0,
  c.args.uuid.now,
  record {
    parts = c.requires.1;
    place = sym c.in_ok-found.ensures.place ∙ c.in-Ok.is;
    lies = subst (λ (r : Result Found OpRefused). IfOk r (LiesInSet c.args.registry.sets)) c.in-Ok.is c.in_ok-found.ensures.lies;
  },
)

pub returns-in-Ok : goal.returns-in-Ok
returns-in-Ok c = if_more _ _ c.begin_found.result (λ begun begins outline o. begins outline c.args.uuid.now (placed c outline o)) c.begin_found.ensures

pub returns-in_ok-report-in-Err : goal.returns-in_ok-report-in-Err
returns-in_ok-report-in-Err c = λ outline o.
    unplaced outline c.args.registry c.args.rest o c.args.uuid.now c.args.bytes.items c.in-Err.refused _ (sym c.in_ok-found.ensures.place ∙ c.in-Err.is) c.without_set.ensures.saved
    (λ contents. c.without_set.ensures.same contents ∙ c.in_ok-report-in-Err.ensures.text)
