use Rattle.std.proofs.Common.{ℕ, ◌≡◌, ◌*◌, ◌/◌, ap, ap₂, ◌∙◌, arith}
use Rattle.arena_open.specs.declared.opened.LaneState.{LaneState}
use Rattle.lane_alone.specs.Lone.{lane_zero}
use Rattle.lane_alone.proofs.Facts.{block_ends}
use Rattle.lane_alone.proofs.alone.block_place.Goals as goal

pub returns-clause-inside : goal.returns-clause-inside
returns-clause-inside c =
    let fits = block_ends c.args.state.now c.requires in
    let free : c.from.result ≡ (lane_zero c.args.state.now).free = c.from.ensures ∙ ap (λ (a : LaneState). a.free) c.lane_zero-free.ensures in
    let same : c.from.result * (c.from-2.result / 8) ≡ (lane_zero c.args.state.now).free * (c.args.state.now.info.layout.inner / 8) = ap₂ (λ (b w : ℕ). b * (w / 8)) free c.from-2.ensures in
    omega (arith, fits, same)
