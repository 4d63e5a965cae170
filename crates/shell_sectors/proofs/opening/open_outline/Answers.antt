use Rattle.std.proofs.Common.{◌≡◌, ◌∙◌, length, ap, arith}
use Rattle.namespace_ops.specs.Opening.{registry_opening}
use Rattle.std.proofs.lemmas.List.{length-map}
use Rattle.namespace_areas.specs.Opening.{opened_as}
use Rattle.shell_reports.proofs.Opened.{are_whole}
use Rattle.shell_sectors.proofs.Outlined.{fault_found, held, open_outline}
use Rattle.shell_sectors.proofs.opening.open_outline.Goals as goal

pub open_areas-requires : goal.open_areas-requires
open_areas-requires c = are_whole c.args.outline.labels c.requires.sound.areas

pub open_all-requires-clause-table : goal.open_all-requires-clause-table
open_all-requires-clause-table c = (c.args.outline.nfit_bytes, c.requires.sound.table)

pub open_all-requires-clause-held : goal.open_all-requires-clause-held
open_all-requires-clause-held c = held c.args.outline c.requires.sound c.requires.loadable c.in_ok-areas.areas c.in_ok-areas.ensures

pub open_all-requires-clause-few : goal.open_all-requires-clause-few
open_all-requires-clause-few c = omega (arith, ap length c.in_ok-areas.ensures, length-map c.args.outline.labels opened_as, c.requires.sound.labels, c.requires.sound.few)

pub returns-in-Ok : goal.returns-in-Ok
returns-in-Ok c = open_outline c.args.outline c.requires.sound c.requires.loadable c.in_ok-areas.areas c.in_ok-areas.ensures c.in-Ok.registry (c.in-Ok.ensures (λ e. cc))

pub returns-in_ok-report-in-Err : goal.returns-in_ok-report-in-Err
returns-in_ok-report-in-Err c = (
  c.in-Err.fault,
  (λ contents. fault_found c.args.outline contents c.in_ok-areas.areas c.in_ok-areas.ensures c.in-Err.fault
      (c.in-Err.ensures (λ e. c.in_ok-report-in-Err.ensures.finding (let same : c.in-Err.fault ≡ _ = cc in same)))),
  c.in_ok-report-in-Err.ensures.text,
  c.in-Err.ensures (λ e. c.in_ok-report-in-Err.ensures.finding (let same : c.in-Err.fault ≡ _ = cc in same)) ∙ ap (registry_opening c.args.outline.nfit) c.in_ok-areas.ensures,
)
