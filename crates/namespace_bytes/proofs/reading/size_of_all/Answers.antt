use Rattle.std.proofs.Common.{◌∙◌, ap, sym, arith}
use Rattle.std.specs.Prelude.{sum_by}
use Rattle.std.proofs.lemmas.List.{take_all}
use Rattle.std.proofs.lemmas.List.Sums.{sum_by_more_le}
use Rattle.namespace_bytes.specs.Putting.{link_bytes}
use Rattle.namespace_bytes.proofs.Sizes.{sum_sizes}
use Rattle.namespace_bytes.proofs.reading.size_of_all.Goals as goal

pub overflow_add-size : goal.overflow_add-size
overflow_add-size c =
    omega (
      arith,
      c.loop-arena.invariant,
      c.size_of-size.ensures,
      ap link_bytes c.arena-item.is,
      sum_by_more_le link_bytes c.args.arenas.now c.loop-arena.arena-index c.arena-item.result c.loop-arena-test.true,
      c.requires.small,
    )

pub returns-clause-sized : goal.returns-clause-sized
returns-clause-sized c = λ words.
    c.loop-arena.invariant
    ∙ ap (sum_by link_bytes) (take_all c.loop-arena.arena-index c.args.arenas.now (omega (arith, c.loop-arena-test.false)))
    ∙ sym (sum_sizes words c.args.arenas.now)
