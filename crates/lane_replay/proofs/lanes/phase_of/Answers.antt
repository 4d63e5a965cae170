use Rattle.std.proofs.Common.{◌∙◌, sym}
use Rattle.lane_core.specs.Held.{held_by}
use Rattle.lane_replay.proofs.OneStep.{core_lane, phase_there}
use Rattle.lane_replay.proofs.lanes.phase_of.Goals as goal

pub returns : goal.returns
returns c =
    let core = c.args.core.now in
    let p = core_lane core c.args.lane c.requires.core c.requires.lane in
    c.phase.ensures p.0 p.1 ∙ sym (phase_there (held_by core) c.args.lane p.0 p.1)
