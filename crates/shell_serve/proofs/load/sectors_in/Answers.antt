use Rattle.std.proofs.Common.{ap, arith}
use Rattle.std.proofs.lemmas.List.Sums.{sum_by_more}
use Rattle.arena_open.specs.ChainCells.{external_of}
use Rattle.arena_open.proofs.ChainSectors.{few_sectors}
use Rattle.shell_serve.proofs.load.sectors_in.Goals as goal

pub overflow_add-count : goal.overflow_add-count
overflow_add-count c =
    let few = few_sectors c.args.arenas.now c.loop-arena.arena-index c.arena-item.result c.requires c.loop-arena-test.true in
    let is = ap external_of c.arena-item.is in
    omega (arith, few, is, c.from-count.ensures, c.loop-arena.invariant.few, c.loop-arena-test.true, c.requires.few)

pub loop-arena-preserved : goal.loop-arena-preserved
loop-arena-preserved c =
    let few = few_sectors c.args.arenas.now c.loop-arena.arena-index c.arena-item.result c.requires c.loop-arena-test.true in
    let is = ap external_of c.arena-item.is in
    let more = sum_by_more external_of c.args.arenas.now c.loop-arena.arena-index c.arena-item.result c.loop-arena-test.true in
    record {
      sum = omega (arith, is, more, c.from-count.ensures, c.loop-arena.invariant.sum);
      few = omega (arith, few, is, c.from-count.ensures, c.loop-arena.invariant.few);
    }
