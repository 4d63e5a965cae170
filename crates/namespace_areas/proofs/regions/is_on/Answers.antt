use Rattle.std.proofs.Common.{eqb, ap, ◌∙◌, Option, ℕ}
use Rattle.std.specs.Prelude.{is_some}
use Rattle.nfit_reader.specs.declared.table.Mapping.{Mapping}
use Rattle.namespace_areas.proofs.OnModules.{some_found}
use Rattle.namespace_areas.proofs.regions.is_on.Goals as goal

pub returns : goal.returns
returns c = c.is_some.ensures ∙ ap (λ (o : Option ℕ). is_some o) c.position.ensures ∙ some_found (λ (m : Mapping). eqb m.«module» c.args.«module») c.args.set.now
