use Rattle.std.proofs.Common.{arith, ap}
use Rattle.std.proofs.lemmas.List.{drop_all}
use Rattle.map_table.specs.Blocks.{blocks_from}
use Rattle.map_table.proofs.Counting.{entries_rest, going_on, going_out, going_none, going_done}
use Rattle.map_table.proofs.check.count_entries.Goals as goal

pub returns-then-block-len-clause-outside : goal.returns-then-block-len-clause-outside
returns-then-block-len-clause-outside c =
    going_out _ _ _ _ _ _ _ (entries_rest c.args.map.now c.loop-sector.sector c.entry-block.result (omega arith) c.entry-block.ensures) (omega (arith, c.len.ensures, c.loop-sector.invariant.sized)) c.loop-sector.invariant

pub loop-sector-preserved : goal.loop-sector-preserved
loop-sector-preserved c =
    going_on _ _ _ _ _ _ _ _ (entries_rest c.args.map.now c.loop-sector.sector c.entry-block.result (omega arith) c.entry-block.ensures)
    (omega (arith, c.len.ensures, c.loop-sector.invariant.sized)) c.add.ensures c.loop-sector.invariant

pub returns-clause-outside : goal.returns-clause-outside
returns-clause-outside c =
    going_none _ _ _ _ _ (ap (blocks_from c.loop-sector.sector) (drop_all c.loop-sector.sector c.args.map.now (omega arith))) c.loop-sector.invariant

pub returns-clause-counted : goal.returns-clause-counted
returns-clause-counted c = λ none.
    going_done _ _ _ _ _ (ap (blocks_from c.loop-sector.sector) (drop_all c.loop-sector.sector c.args.map.now (omega arith))) c.loop-sector.invariant
