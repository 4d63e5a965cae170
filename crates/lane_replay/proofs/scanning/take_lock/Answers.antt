use Rattle.std.proofs.Common.{◌≡◌, suc, ◌-◌, sym, ap, ◌∙◌, arith}
use Rattle.lane_core.specs.Held.{held_by}
use Rattle.lane_replay.specs.Scanning.{is_staged}
use Rattle.lane_replay.proofs.OneStep.{core_lane}
use Rattle.lane_replay.proofs.Tries.{takes, waits}
use Rattle.lane_replay.proofs.scanning.take_lock.Goals as goal

pub returns-then-is_staged-clause-same : goal.returns-then-is_staged-clause-same
returns-then-is_staged-clause-same c =
    let core = c.args.core.now in
    let p = core_lane core c.args.lane c.requires.core c.requires.lane in
    waits (held_by core) c.args.lane p.0 p.1 c.args.left (held_by c.step_lane.new.core) c.requires.staged c.step_lane.ensures.held
    (ap is_staged (sym c.phase_of.ensures) ∙ sym c.is_staged.ensures ∙ c.if-is_staged.true)

pub returns-else-is_staged-clause-same : goal.returns-else-is_staged-clause-same
returns-else-is_staged-clause-same c =
    let core = c.args.core.now in
    let p = core_lane core c.args.lane c.requires.core c.requires.lane in
    let count : c.args.left ≡ suc (c.args.left - 1) = omega arith in
    takes (held_by core) c.args.lane p.0 p.1 c.args.left (c.args.left - 1) (held_by c.step_lane.new.core) c.requires.staged c.step_lane.ensures.held count
