use Rattle.std.proofs.Common.{arith}
use Rattle.std.proofs.lemmas.List.{drop_all}
use Rattle.map_table.proofs.Counting.{rest_of, going_on, going_out, going_none}
use Rattle.map_table.proofs.check.count_free.Goals as goal

pub returns-then-block-len-clause-outside : goal.returns-then-block-len-clause-outside
returns-then-block-len-clause-outside c =
    going_out _ _ _ _ _ _ _ (rest_of c.args.free.now c.loop-block.block-index (omega arith)) (omega (arith, c.len.ensures, c.loop-block.invariant.sized)) c.loop-block.invariant

pub loop-block-preserved : goal.loop-block-preserved
loop-block-preserved c =
    going_on _ _ _ _ _ _ _ _ (rest_of c.args.free.now c.loop-block.block-index (omega arith)) (omega (arith, c.len.ensures, c.loop-block.invariant.sized)) c.add.ensures c.loop-block.invariant

pub returns-clause-outside : goal.returns-clause-outside
returns-clause-outside c =
    going_none _ _ _ _ _ (drop_all c.loop-block.block-index c.args.free.now (omega arith)) c.loop-block.invariant
