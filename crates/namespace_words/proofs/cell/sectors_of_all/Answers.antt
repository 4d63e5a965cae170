use Rattle.std.proofs.Common.{◌∙◌, ap, sym, arith}
use Rattle.std.specs.Prelude.{sum_by}
use Rattle.std.proofs.lemmas.List.{take_all}
use Rattle.std.proofs.lemmas.List.Sums.{sum_by_more_le}
use Rattle.arena_open.specs.InPlace.{external_in}
use Rattle.arena_open.proofs.ChainInPlace.{sum_links}
use Rattle.namespace_words.proofs.HeldCells.{few_sectors}
use Rattle.namespace_words.proofs.cell.sectors_of_all.Goals as goal

pub overflow_add-count : goal.overflow_add-count
overflow_add-count c =
    omega (
      arith,
      c.loop-arena.invariant,
      ap external_in c.arena-item.is,
      c.from-count.ensures,
      sum_by_more_le external_in c.args.arenas.now c.loop-arena.arena-index c.arena-item.result c.loop-arena-test.true,
      few_sectors c.args.arenas.now c.requires,
    )

pub returns-clause-states : goal.returns-clause-states
returns-clause-states c = λ words.
    c.loop-arena.invariant
    ∙ ap (sum_by external_in) (take_all c.loop-arena.arena-index c.args.arenas.now (omega (arith, c.loop-arena-test.false)))
    ∙ sym (sum_links words c.args.arenas.now)
