use Rattle.lane_replay.proofs.Begun.{begins_busy, begins_ok}
use Rattle.lane_replay.proofs.OneStep.{core_lane}
use Rattle.lane_replay.proofs.calls.begin_call.Goals as goal

pub returns-in-Ok-clause-begins : goal.returns-in-Ok-clause-begins
returns-in-Ok-clause-begins c =
    let core = c.args.core.now in
    let p = core_lane core c.args.lane c.requires.core c.requires.lane in
    begins_ok core c.begin.new.self c.args.lane c.args.tag c.args.call p.0 p.1 c.in-Ok.ensures.busy c.in-Ok.ensures.begun

pub returns-in-Err-LaneBusy-clause-begins : goal.returns-in-Err-LaneBusy-clause-begins
returns-in-Err-LaneBusy-clause-begins c =
    let core = c.args.core.now in
    let p = core_lane core c.args.lane c.requires.core c.requires.lane in
    begins_busy core c.begin.new.self c.args.lane c.args.tag c.args.call p.0 c.in-Err-LaneBusy.field-0 c.in-Err-LaneBusy.phase p.1 c.in-Err-LaneBusy.field-0-is
    c.in-Err-LaneBusy.ensures.busy c.in-Err-LaneBusy.ensures.refused
