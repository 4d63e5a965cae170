use Rattle.std.proofs.Common.{ℕ, Option, Some, sym, ap, ◌∙◌, refl}
use Rattle.std.specs.Option.{is_some}
use Rattle.nfit_reader.specs.declared.table.Region.{Region}
use Rattle.nfit_reader.proofs.Missing.{here, more, ended}
use Rattle.image_set.specs.declared.fault.LoadFault.{LoadFault}
use Rattle.set_objects.specs.Found.{region_end_fault}
use Rattle.set_objects.proofs.mapped.mappings_fault.Goals as goal

abbrev fault_in : ℕ → ℕ → Region → Option LoadFault
fault_in m bytes region = region_end_fault m bytes region.mappings

pub returns-in-Some : goal.returns-in-Some
returns-in-Some c =
    here (fault_in c.args.module c.args.bytes) c.args.regions.now c.loop-region.region-index c.region-item.result (Some c.in-Some.fault) c.loop-region-test.true
    (sym c.in-Some.is ∙ c.region_fault.ensures ∙ ap (region_end_fault c.args.module c.args.bytes) c.as_slice.ensures ∙ ap (fault_in c.args.module c.args.bytes) c.region-item.is) refl
    ∙ c.loop-region.invariant

pub loop-region-preserved : goal.loop-region-preserved
loop-region-preserved c =
    more (fault_in c.args.module c.args.bytes) c.args.regions.now c.loop-region.region-index c.region-item.result c.region_fault.result c.loop-region-test.true
    (c.region_fault.ensures ∙ ap (region_end_fault c.args.module c.args.bytes) c.as_slice.ensures ∙ ap (fault_in c.args.module c.args.bytes) c.region-item.is) (ap is_some c.in_default.is)
    ∙ c.loop-region.invariant

pub returns : goal.returns
returns c = ended (fault_in c.args.module c.args.bytes) c.args.regions.now c.loop-region.region-index c.loop-region-test.false ∙ c.loop-region.invariant
