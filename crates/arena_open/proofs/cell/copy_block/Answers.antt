use Rattle.std.proofs.Common.{◌≡◌, ◌+◌, ◌*◌, ◌/◌, ◌∙◌, take, drop, arith}
use Rattle.arena_open.proofs.Sectors.{block_fits, words_are}
use Rattle.arena_open.proofs.cell.copy_block.Goals as goal

pub words_at-requires : goal.words_at-requires
words_at-requires c =
    let first : c.args.layout.now.data_off / 8 + c.from.result * (c.from-2.result / 8) ≡ c.args.layout.now.data_off / 8 + c.args.block * (c.args.layout.now.inner / 8) =
    λ i. c.args.layout.now.data_off / 8 + c.from.ensures i * (c.from-2.ensures i / 8) in
    omega (arith, first, block_fits c.args.layout.now c.args.block c.requires.layout c.requires.block, c.requires.count, c.requires.room)

pub returns : goal.returns
returns c =
    let first : c.args.layout.now.data_off / 8 + c.from.result * (c.from-2.result / 8) ≡ c.args.layout.now.data_off / 8 + c.args.block * (c.args.layout.now.inner / 8) =
    λ i. c.args.layout.now.data_off / 8 + c.from.ensures i * (c.from-2.ensures i / 8) in
    c.copy_from_slice.ensures.after ∙ c.words_at.ensures.value ∙ (λ i. take (c.requires.room i) (drop (first i) c.args.words.now))
    ∙ words_are c.args.layout.now c.args.words.now c.args.block (c.args.layout.now.sector / 8)
    (omega (arith, block_fits c.args.layout.now c.args.block c.requires.layout c.requires.block, c.requires.count))
