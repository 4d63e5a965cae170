use Rattle.std.proofs.Common.{Some, sym, ap, ◌∙◌, refl}
use Rattle.std.specs.Option.{is_some}
use Rattle.nfit_reader.proofs.Missing.{here, more, ended}
use Rattle.set_objects.specs.Found.{end_fault}
use Rattle.set_objects.proofs.mapped.region_fault.Goals as goal

pub returns-in-Some : goal.returns-in-Some
returns-in-Some c =
    here (end_fault c.args.module c.args.bytes) c.args.mappings.now c.loop-mapping.mapping-index c.mapping-item.result (Some c.in-Some.fault) c.loop-mapping-test.true
    (sym c.in-Some.is ∙ c.mapping_fault.ensures ∙ ap (end_fault c.args.module c.args.bytes) c.mapping-item.is) refl
    ∙ c.loop-mapping.invariant

pub loop-mapping-preserved : goal.loop-mapping-preserved
loop-mapping-preserved c =
    more (end_fault c.args.module c.args.bytes) c.args.mappings.now c.loop-mapping.mapping-index c.mapping-item.result c.mapping_fault.result c.loop-mapping-test.true
    (c.mapping_fault.ensures ∙ ap (end_fault c.args.module c.args.bytes) c.mapping-item.is) (ap is_some c.in_default.is)
    ∙ c.loop-mapping.invariant

pub returns : goal.returns
returns c = ended (end_fault c.args.module c.args.bytes) c.args.mappings.now c.loop-mapping.mapping-index c.loop-mapping-test.false ∙ c.loop-mapping.invariant
