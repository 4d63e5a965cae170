use Rattle.std.proofs.Common.{Some, sym, ap, ◌∙◌, refl}
use Rattle.std.specs.Option.{is_some}
use Rattle.nfit_reader.proofs.Missing.{here, more, ended}
use Rattle.image_set.specs.Sizes.{contents_of, mapping_fault_by}
use Rattle.image_set.proofs.mapped.region_fault.Goals as goal

pub returns-in-Some-clause-fault : goal.returns-in-Some-clause-fault
returns-in-Some-clause-fault c =
    here (mapping_fault_by (contents_of c.args.sizes.now)) c.args.mappings.now c.loop-mapping.mapping-index c.mapping-item.result (Some c.in-Some.fault) c.loop-mapping-test.true
    (sym c.in-Some.is ∙ c.mapping_fault.ensures.fault ∙ ap (mapping_fault_by (contents_of c.args.sizes.now)) c.mapping-item.is) refl
    ∙ c.loop-mapping.invariant

pub loop-mapping-preserved : goal.loop-mapping-preserved
loop-mapping-preserved c =
    more (mapping_fault_by (contents_of c.args.sizes.now)) c.args.mappings.now c.loop-mapping.mapping-index c.mapping-item.result c.mapping_fault.result c.loop-mapping-test.true
    (c.mapping_fault.ensures.fault ∙ ap (mapping_fault_by (contents_of c.args.sizes.now)) c.mapping-item.is) (ap is_some c.in_default.is)
    ∙ c.loop-mapping.invariant

pub returns-clause-fault : goal.returns-clause-fault
returns-clause-fault c = ended (mapping_fault_by (contents_of c.args.sizes.now)) c.args.mappings.now c.loop-mapping.mapping-index c.loop-mapping-test.false ∙ c.loop-mapping.invariant
