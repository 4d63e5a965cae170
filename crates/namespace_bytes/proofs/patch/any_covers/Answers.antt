use Rattle.namespace_bytes.specs.Patching.{IsLaidPart}
use Rattle.namespace_bytes.proofs.Parts.{of_part, part_covers}
use Rattle.namespace_bytes.proofs.patch.any_covers.Goals as goal

pub returns-then-covers : goal.returns-then-covers
returns-then-covers c =
    let own : IsLaidPart c.args.sets.now c.part-item.result = of_part c.args.sets.now c.args.parts.now c.loop-part.part-index c.part-item.result c.loop-part-test.true c.part-item.is (IsLaidPart c.args.sets.now) c.requires.laid in
    λ _. part_covers c.args.sets.now c.args.parts.now c.loop-part.part-index c.part-item.result c.loop-part-test.true c.part-item.is c.index-sets-part.result own.region c.index-sets-part.is
    c.args.module c.args.at c.args.bytes (c.covers.ensures c.if-covers.true)
