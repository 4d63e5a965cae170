use Rattle.std.proofs.Common.{ap, arith}
use Rattle.arena_open.specs.declared.opened.LaneState.{LaneState}
use Rattle.lane_alone.proofs.Facts.{free_small}
use Rattle.lane_alone.proofs.alone.moved_word.Goals as goal

pub normal-requires : goal.normal-requires
normal-requires c =
    let free = ap (λ (a : LaneState). a.free) c.lane_zero.ensures in
    omega (arith, free, free_small c.args.state.now c.requires.state)
