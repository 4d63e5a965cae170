use Rattle.std.proofs.Common.{sym, arith}
use Rattle.map_table.specs.Blocks.{blocks_of}
use Rattle.map_table.proofs.Checked.{range_is, twice_answer, count_answer, fine_answer, least_is, outside_is, length_blocks}
use Rattle.map_table.proofs.check.check_counted.Goals as goal

pub returns-in-Some : goal.returns-in-Some
returns-in-Some c = range_is c.args.internal c.in-Some.block _ (outside_is _ _ _ _ c.requires.zeros c.in-Some.ensures.outside)

pub returns-in-Some-least_twice : goal.returns-in-Some-least_twice
returns-in-Some-least_twice c =
    twice_answer c.args.internal c.in-Some-least_twice.block (blocks_of c.args.map.now c.args.free.now)
    (sym (outside_is _ _ _ _ c.requires.zeros c.in_default.ensures.outside))
    (least_is _ _ _ _ _ c.requires.zeros c.count_all.ensures.sized (c.count_all.ensures.counted c.in_default.is) c.in-Some-least_twice.ensures.block)

pub returns-then-had-from : goal.returns-then-had-from
returns-then-had-from c =
    count_answer c.args.internal _ (blocks_of c.args.map.now c.args.free.now)
    (sym (outside_is _ _ _ _ c.requires.zeros c.in_default.ensures.outside))
    (sym (least_is _ _ _ _ _ c.requires.zeros c.count_all.ensures.sized (c.count_all.ensures.counted c.in_default.is) c.in_default-least_twice.ensures.block))
    (sym (length_blocks c.args.map.now c.args.free.now)) (omega arith)

pub returns : goal.returns
returns c =
    fine_answer c.args.internal (blocks_of c.args.map.now c.args.free.now)
    (sym (outside_is _ _ _ _ c.requires.zeros c.in_default.ensures.outside))
    (sym (least_is _ _ _ _ _ c.requires.zeros c.count_all.ensures.sized (c.count_all.ensures.counted c.in_default.is) c.in_default-least_twice.ensures.block))
    (omega (arith, length_blocks c.args.map.now c.args.free.now))
