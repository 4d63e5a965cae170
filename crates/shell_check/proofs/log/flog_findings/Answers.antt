use Rattle.std.proofs.Common.{◌∙◌, ◌++◌, ℕ, List, [], ap}
use Rattle.std.specs.List.{cons_option}
use Rattle.flog.specs.Group.{group_reading}
use Rattle.arena_check.specs.Check.{group_finding}
use Rattle.shell_check.proofs.Lanes.{lane_more}
use Rattle.shell_check.proofs.log.flog_findings.Goals as goal

pub loop-lane-preserved : goal.loop-lane-preserved
loop-lane-preserved c = λ words are.
    let l = c.args.layout.now in
    let lane : ℕ = c.loop-lane.lane in
    c.in_ok-push_refused.ensures
    ∙ (λ i. c.loop-lane.invariant words are i ++ cons_option (group_finding lane ((c.read_group-group.ensures.group ∙ ap (λ (ws : List ℕ). group_reading ws l.external l.internal) (c.log_group.ensures words l are)) i)) [])
    ∙ lane_more c.args.layout.now words c.loop-lane.lane
