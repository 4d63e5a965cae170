use Rattle.std.proofs.Common.{◌∙◌, Err, ap, sym}
use Rattle.namespace_ops.specs.declared.registry.OpenFault.{OpenFault}
use Rattle.namespace_ops.proofs.OpenSets.{set_refused, set_accepted}
use Rattle.namespace_ops.proofs.Regions.{regions_read}
use Rattle.namespace_ops.proofs.registry.Registry.open_all.Goals as goal

pub over-requires-clause-regions : goal.over-requires-clause-regions
over-requires-clause-regions c =
    regions_read c.args.nfit c.in-Ok.sets c.requires.table c.requires.counted (sym c.in-Ok.is ∙ c.sets_of.ensures.sets (λ wanting. (let e = sym c.in-Ok.is ∙ wanting in cc)))

pub returns-in-Ok : goal.returns-in-Ok
returns-in-Ok c =
    set_accepted c.args.nfit c.args.areas c.in-Ok.sets c.over.result (sym c.in-Ok.is ∙ c.sets_of.ensures.sets (λ wanting. (let e = sym c.in-Ok.is ∙ wanting in cc))) c.over.ensures

pub returns : goal.returns
returns c = λ other.
    set_refused c.args.nfit c.args.areas c.in-Err.fault
    (λ apart. sym c.in-Err.is ∙ c.sets_of.ensures.sets (λ wanting. apart (let e = sym c.in-Err.is ∙ wanting in cc))) (λ is. other (ap (λ (f : OpenFault). Err f) is))
