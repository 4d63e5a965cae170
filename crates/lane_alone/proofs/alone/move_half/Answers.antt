use Rattle.std.proofs.Common.{ap, arith}
use Rattle.arena_open.specs.declared.opened.LaneState.{LaneState}
use Rattle.lane_alone.proofs.Facts.{seq_high, seq_low}
use Rattle.lane_alone.proofs.alone.move_half.Goals as goal

pub next_half-requires-clause-low : goal.next_half-requires-clause-low
next_half-requires-clause-low c =
    let seq = ap (λ (a : LaneState). a.group.half.seq) c.lane_zero-lane.ensures in
    omega (arith, seq, seq_low c.args.state.now c.requires.state)

pub next_half-requires-clause-high : goal.next_half-requires-clause-high
next_half-requires-clause-high c =
    let seq = ap (λ (a : LaneState). a.group.half.seq) c.lane_zero-lane.ensures in
    omega (arith, seq, seq_high c.args.state.now c.requires.state)
