use Rattle.std.proofs.Common.{◌≡◌, ◌+◌, ◌-◌, ap, ◌∙◌, arith, slice_index}
use Rattle.lane_core.specs.Places.{KeptData, word_of}
use Rattle.lane_table.proofs.WriteLines.{keeps_data}
use Rattle.lane_table.proofs.steps.data_keep.Goals as goal

pub store-requires : goal.store-requires
store-requires c =
    let x = c.args.table.now.key.shape in
    let back : c.args.k ≡ x.width + c.args.k - x.width = omega arith in (
      c.requires.seat.0,
      c.requires.at.0,
      keeps_data c.args.table.now.key _ _ _ c.args.seat.now.me c.requires.seat.1 (x.width + c.args.k) _ c.requires.seat.2 (omega arith) (omega (arith, c.requires.k))
          (c.requires.at.1 ∙ ap (λ k. word_of x (KeptData c.args.seat.now.me.0.lane.block k)) back) (c.requires.word ∙ ap (slice_index c.args.seat.now.me.0.lane.words) back),
    )
