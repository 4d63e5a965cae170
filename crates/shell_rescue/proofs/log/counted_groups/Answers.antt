use Rattle.arena_check.specs.Check.{in_arena}
use Rattle.shell_rescue.proofs.Counted.{lane_pushed, range_more}
use Rattle.shell_rescue.proofs.log.counted_groups.Goals as goal

pub loop-lane-preserved : goal.loop-lane-preserved
loop-lane-preserved g c = record {
  groups = λ words are.
      lane_pushed c.args.layout.now (in_arena c.args.at (g.B.BadWords.bad c.args.bad.now)) words c.loop-lane.lane c.loop-lane.groups _ c.lane_group.result (c.loop-lane.invariant.groups words are)
      (c.lane_group.ensures.told words are) c.in_ok-push_group.ensures;
  in_range = range_more c.args.layout.now.external c.loop-lane.groups _ c.lane_group.result c.in_ok-push_group.ensures c.loop-lane.invariant.in_range c.lane_group.ensures.in_range;
}
