use Rattle.std.proofs.Common.{◌≡◌, ℕ, ◌+◌, ◌*◌, ◌/◌, ◌∙◌, take, drop, ap, arith}
use Rattle.arena_open.proofs.InPlace.{loaded_block}
use Rattle.arena_open.proofs.Sectors.{block_fits}
use Rattle.arena_open.proofs.in_place.load_block.Goals as goal

pub load_from-requires-clause-inside : goal.load_from-requires-clause-inside
load_from-requires-clause-inside g c =
    let first : c.args.layout.now.data_off / 8 + c.from.result * (c.from-2.result / 8) ≡ c.args.layout.now.data_off / 8 + c.args.block * (c.args.layout.now.inner / 8) =
    λ i. c.args.layout.now.data_off / 8 + c.from.ensures i * (c.from-2.ensures i / 8) in
    omega (arith, first, block_fits c.args.layout.now c.args.block c.requires.layout c.requires.block, c.requires.inside, c.requires.room)

pub returns : goal.returns
returns g c =
    let first : c.args.layout.now.data_off / 8 + c.from.result * (c.from-2.result / 8) ≡ c.args.layout.now.data_off / 8 + c.args.block * (c.args.layout.now.inner / 8) =
    λ i. c.args.layout.now.data_off / 8 + c.from.ensures i * (c.from-2.ensures i / 8) in
    loaded_block (g.W.WordSpace.words c.args.space.now).kept c.load_from.new.into c.args.at (c.args.layout.now.data_off / 8 + c.from.result * (c.from-2.result / 8)) c.args.layout.now c.args.block
    (c.args.layout.now.sector / 8) first (c.load_from.auto.into ∙ c.requires.room)
    (c.load_from.ensures ∙ ap (λ (m : ℕ). take m (drop (c.args.at + (c.args.layout.now.data_off / 8 + c.from.result * (c.from-2.result / 8))) (g.W.WordSpace.words c.args.space.now).kept)) c.requires.room)
