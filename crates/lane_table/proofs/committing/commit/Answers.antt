use Rattle.std.proofs.Common.{◌<◌, ap, ◌∙◌, arith}
use Rattle.lane_table.specs.Told.{path, known}
use Rattle.lane_table.proofs.Burning.{burnt_later, way_on}
use Rattle.lane_table.proofs.committing.commit.Goals as goal

pub overflow_cast-result : goal.overflow_cast-result
overflow_cast-result c = let few = (c.in-Some.ensures.busy c.if-found-ne0.true).2 in omega (arith, few)

pub returns-else-made-eq7-clause-ended : goal.returns-else-made-eq7-clause-ended
returns-else-made-eq7-clause-ended c =
    let r = c.finish-made.result in
    let w = c.in-Some-map_load.word in
    let f = c.finish-made.ensures in
    let no = c.if-made-eq7.false in
    let lt : c.finish-made.result < 7 = omega (arith, f.went.1, no) in
    (w, omega (arith, lt), f.went.0 ∙ ap (path r) (c.in-Some-map_load.ensures.known ∙ ap (known w) (c.in-Some.ensures.taken c.if-found-ne0.false)) ∙ way_on c.args.call w r _, burnt_later _ _ _ _ r c.in-Some.ensures.made c.in-Some-map_load.ensures.made (f.cut lt))
