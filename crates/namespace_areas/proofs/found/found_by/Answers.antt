use Rattle.std.proofs.Common.{ℕ, ◌∙◌, Ok, ap, sym, subst}
use Rattle.namespace_map.specs.Commands.{is_complete, is_sector}
use Rattle.namespace_areas.specs.Finding.{LiesInSet}
use Rattle.namespace_areas.proofs.Finding.{found_with, lies_with, sector_is}
use Rattle.namespace_areas.proofs.found.found_by.Goals as goal

pub returns-clause-found : goal.returns-clause-found
returns-clause-found c =
    (λ i. Ok (record { region = c.in-Some-region_of.region; offset = c.relative_address.ensures i; raw = c.in-Some.first.now.label.raw; mode = c.mode-mode.ensures i }))
    ∙ found_with c.args.regions.now c.in-Some-region_of.region c.in-Some-region_of.set.now c.args.labels.now c.in-Some.first.now c.in-Some.ensures.value c.in-Some-region_of.ensures
    (c.if-not-is_complete.ensures ∙ ap is_complete c.status.ensures) (c.if-not-is_sector.ensures ∙ ap is_sector c.mode-mode.ensures)

pub returns-clause-lies : goal.returns-clause-lies
returns-clause-lies c =
    subst (λ (offset : ℕ). LiesInSet c.args.regions.now (record { region = c.in-Some-region_of.region; offset = offset; raw = c.in-Some.first.now.label.raw; mode = c.mode-mode.result }))
    (sym c.relative_address.ensures)
    (lies_with c.args.regions.now c.in-Some-region_of.region c.in-Some-region_of.set.now c.args.labels.now c.in-Some.first.now c.in-Some.ensures.value c.in-Some-region_of.ensures
    (c.if-not-is_complete.ensures ∙ ap is_complete c.status.ensures) c.mode-mode.result)

pub returns-clause-sector : goal.returns-clause-sector
returns-clause-sector c = sector_is c.mode-mode.result c.if-not-is_sector.ensures
