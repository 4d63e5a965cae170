use Rattle.std.proofs.Common.{refl, ◌∙◌}
use Rattle.namespace_bytes.specs.Patching.{IsLaidPart}
use Rattle.namespace_bytes.proofs.Parts.{all_parts_put, of_part, part_put}
use Rattle.namespace_bytes.proofs.patch.put_parts.Goals as goal

pub loop-part-init : goal.loop-part-init
loop-part-init c = refl

pub loop-part-preserved : goal.loop-part-preserved
loop-part-preserved c =
    let own : IsLaidPart c.args.sets.now c.part-item.result = of_part c.args.sets.now c.args.parts.now c.loop-part.part-index c.part-item.result c.loop-part-test.true c.part-item.is (IsLaidPart c.args.sets.now) c.requires.laid in
    part_put c.args.sets.now c.args.parts.now c.loop-part.part-index c.part-item.result c.loop-part-test.true c.part-item.is c.index-sets-part.result own.region c.index-sets-part.is
    c.args.module c.args.at c.loop-part.piece c.put.new.piece c.put.ensures ∙ c.loop-part.invariant

pub returns : goal.returns
returns c = all_parts_put c.args.sets.now c.args.parts.now c.loop-part.part-index c.args.module c.args.at c.loop-part.piece c.loop-part-test.false ∙ c.loop-part.invariant
