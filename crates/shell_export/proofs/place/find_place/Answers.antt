use Rattle.std.proofs.Common.{◌≡◌, Result, Err, ap, sym, ◌∙◌, subst}
use Rattle.std.specs.Prelude.{IfOk}
use Rattle.namespace_map.specs.declared.refused.OpRefused.{OpRefused}
use Rattle.namespace_areas.specs.declared.found.Found.{Found}
use Rattle.shell_export.proofs.Places.{lies_if, raw_listed}
use Rattle.shell_export.proofs.place.find_place.Goals as goal

pub returns-in-Err-NotSector-clause-place : goal.returns-in-Err-NotSector-clause-place
returns-in-Err-NotSector-clause-place c =
    subst (λ (y : Result Found OpRefused). IfOk c.find_raw.result (λ found. found ≡ y))
    (raw_listed c.args.registry.now c.args.uuid.now (sym c.find.ensures.found ∙ c.in-Err-NotSector.is ∙ ap (λ (r : OpRefused). Err r) c.in-Err-NotSector.field-0-is)) c.find_raw.ensures

pub returns-in-Err-NotSector-clause-lies : goal.returns-in-Err-NotSector-clause-lies
returns-in-Err-NotSector-clause-lies c =
    lies_if c.args.registry.now c.args.uuid.now c.requires.held c.find_raw.result
    (subst (λ (y : Result Found OpRefused). IfOk c.find_raw.result (λ found. found ≡ y))
    (raw_listed c.args.registry.now c.args.uuid.now (sym c.find.ensures.found ∙ c.in-Err-NotSector.is ∙ ap (λ (r : OpRefused). Err r) c.in-Err-NotSector.field-0-is)) c.find_raw.ensures)
