use Rattle.std.proofs.Common.{List, Option, Some, sym, ap, ◌∙◌, refl}
use Rattle.std.specs.Option.{is_some}
use Rattle.nfit_reader.specs.declared.table.Region.{Region}
use Rattle.nfit_reader.proofs.Missing.{here, more, ended}
use Rattle.image_set.specs.declared.fault.LoadFault.{LoadFault}
use Rattle.image_set.specs.declared.sizes.Sizes.{Sizes}
use Rattle.image_set.specs.Sizes.{contents_of, region_fault_by}
use Rattle.image_set.proofs.mapped.mappings_fault.Goals as goal

abbrev fault_in : List Sizes → Region → Option LoadFault
fault_in sizes region = region_fault_by (contents_of sizes) region.mappings

pub returns-in-Some-clause-fault : goal.returns-in-Some-clause-fault
returns-in-Some-clause-fault c =
    here (fault_in c.args.sizes.now) c.args.regions.now c.loop-region.region-index c.region-item.result (Some c.in-Some.fault) c.loop-region-test.true
    (sym c.in-Some.is ∙ c.region_fault.ensures.fault ∙ ap (region_fault_by (contents_of c.args.sizes.now)) c.as_slice.ensures ∙ ap (fault_in c.args.sizes.now) c.region-item.is) refl
    ∙ c.loop-region.invariant

pub loop-region-preserved : goal.loop-region-preserved
loop-region-preserved c =
    more (fault_in c.args.sizes.now) c.args.regions.now c.loop-region.region-index c.region-item.result c.region_fault.result c.loop-region-test.true
    (c.region_fault.ensures.fault ∙ ap (region_fault_by (contents_of c.args.sizes.now)) c.as_slice.ensures ∙ ap (fault_in c.args.sizes.now) c.region-item.is) (ap is_some c.in_default.is)
    ∙ c.loop-region.invariant

pub returns-clause-fault : goal.returns-clause-fault
returns-clause-fault c = ended (fault_in c.args.sizes.now) c.args.regions.now c.loop-region.region-index c.loop-region-test.false ∙ c.loop-region.invariant
