use Rattle.std.proofs.Common.{ℕ, ◌+◌, ◌-◌, ◌/◌, ap, ◌∙◌, arith}
use Rattle.arena_open.specs.declared.opened.LaneState.{LaneState}
use Rattle.flog.specs.Group.{place_of}
use Rattle.lane_alone.specs.Lone.{lane_zero}
use Rattle.lane_alone.proofs.Facts.{other_place, side_two}
use Rattle.lane_alone.proofs.alone.half_place.Goals as goal

pub overflow_sub-side : goal.overflow_sub-side
overflow_sub-side c =
    let side = ap (λ (a : LaneState). a.group.side) c.lane_zero-side.ensures in
    omega (arith, side, side_two c.args.state.now c.requires)

pub returns-clause-place : goal.returns-clause-place
returns-clause-place c =
    ap (λ (p : ℕ). c.args.state.now.info.layout.flog_off / 8 + p)
    (c.half_at.ensures.place ∙ ap (λ (a : LaneState). place_of (1 - a.group.side)) c.lane_zero-side.ensures ∙ other_place (lane_zero c.args.state.now).group.side (side_two c.args.state.now c.requires))
