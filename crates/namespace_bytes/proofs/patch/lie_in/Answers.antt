use Rattle.std.proofs.Common.{subst, arith}
use Rattle.std.specs.List.{All}
use Rattle.std.proofs.lemmas.List.{take_all}
use Rattle.namespace_bytes.specs.Patching.{IsLaidPart, IsPart}
use Rattle.namespace_bytes.proofs.Parts.{more_parts, now_laid, of_part}
use Rattle.namespace_bytes.proofs.patch.lie_in.Goals as goal

pub loop-part-init : goal.loop-part-init
loop-part-init c = λ k d lt. absurd (omega (arith, lt))

pub loop-part-preserved : goal.loop-part-preserved
loop-part-preserved c =
    let own : IsPart c.args.sets.now c.part-item.result = of_part c.args.sets.now c.args.parts.now c.loop-part.part-index c.part-item.result c.loop-part-test.true c.part-item.is (IsPart c.args.sets.now) c.requires in
    more_parts c.args.sets.now c.args.parts.now c.loop-part.part-index c.part-item.result c.loop-part-test.true c.part-item.is (IsLaidPart c.args.sets.now) c.loop-part.invariant
    (now_laid c.args.sets.now c.args.parts.now c.loop-part.part-index c.part-item.result c.loop-part-test.true c.part-item.is c.index-sets-part.result own.region c.index-sets-part.is own.long c.lies_in.ensures)

pub returns : goal.returns
returns c =
    subst (All (IsLaidPart c.args.sets.now)) (take_all c.loop-part.part-index c.args.parts.now c.loop-part-test.false) c.loop-part.invariant
