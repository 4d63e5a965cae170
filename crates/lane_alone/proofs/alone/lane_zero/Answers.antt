use Rattle.std.proofs.Common.{◌<◌, length, sym, subst}
use Rattle.lane_alone.proofs.Facts.{some_lane}
use Rattle.lane_alone.proofs.alone.lane_zero.Goals as goal

pub bounds-as_slice-0 : goal.bounds-as_slice-0
bounds-as_slice-0 c = subst (λ xs. 0 < length xs) (sym c.as_slice.ensures) (some_lane c.args.state.now c.requires)
