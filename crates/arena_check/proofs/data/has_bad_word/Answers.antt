use Rattle.std.proofs.Common.{◌≡◌, ◌+◌, ◌*◌, ◌/◌, ◌≤◌, ◌^◌, ◌∙◌, arith}
use Rattle.arena_check.proofs.BlockWords.{block_fits, word_run}
use Rattle.arena_check.proofs.data.has_bad_word.Goals as goal

pub any_bad-requires : goal.any_bad-requires
any_bad-requires g c =
    let fits : c.args.at + (c.args.layout.now.data_off / 8 + c.args.block * (c.args.layout.now.inner / 8)) + c.args.layout.now.sector / 8 ≤ 2 ^ 61 =
    block_fits c.args.layout.now c.requires.layout c.args.at c.args.block c.requires.inside c.requires.block in
    let product : c.from.result * (c.from-2.result / 8) ≡ c.args.block * (c.args.layout.now.inner / 8) = (λ i. c.from.ensures i * (c.from-2.ensures i / 8)) in
    omega (arith, fits, product, c.from-3.ensures)

pub returns : goal.returns
returns g c = c.any_bad.ensures ∙ word_run c.args.layout.now (g.B.BadWords.bad c.args.bad.now) c.args.at c.args.block _ _
    (λ i. c.args.at + (c.args.layout.now.data_off / 8 + c.from.ensures i * (c.from-2.ensures i / 8))) (λ i. c.from-3.ensures i / 8)
