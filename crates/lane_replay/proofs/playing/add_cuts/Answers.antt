use Rattle.lane_core.specs.Held.{held_by}
use Rattle.lane_replay.proofs.Parts.{cuts_none, cuts_on}
use Rattle.lane_replay.proofs.playing.add_cuts.Goals as goal

pub loop-lane-init : goal.loop-lane-init
loop-lane-init c = cuts_none (held_by c.args.core.now) c.args.text.now.items

pub loop-lane-preserved : goal.loop-lane-preserved
loop-lane-preserved c =
    cuts_on c.loop-lane.lane (held_by c.args.core.now) c.args.text.now.items c.loop-lane.text.items c.add_cut.new.text.items c.loop-lane.invariant c.in_ok-add_cut.ensures
