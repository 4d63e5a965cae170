use Rattle.std.proofs.Common.{◌∙◌, sym}
use Rattle.namespace_areas.specs.Refusals.{fit_beside}
use Rattle.namespace_areas.proofs.Fit.{place_found, no_place}
use Rattle.namespace_areas.proofs.creating.place.Goals as goal

pub returns-in-Ok-Some : goal.returns-in-Ok-Some
returns-in-Ok-Some c = λ _. place_found (fit_beside c.args.set.now c.args.labels.now c.args.raw) c.in-Ok-Some.offset c.args.raw (sym c.in-Ok-Some.field-0-is ∙ c.in-Ok-Some.ensures)

pub returns-in-Ok-None : goal.returns-in-Ok-None
returns-in-Ok-None c = λ _. no_place (fit_beside c.args.set.now c.args.labels.now c.args.raw) c.args.raw (sym c.in-Ok-None.field-0-is ∙ c.in-Ok-None.ensures)
