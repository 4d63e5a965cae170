use Rattle.lane_replay.specs.Lanes.{answered, stepped}
use Rattle.lane_replay.proofs.lanes.step_lane.Goals as goal

pub returns-clause-held : goal.returns-clause-held
unfolding stepped
returns-clause-held c = c.step.ensures.held

pub returns-clause-answer : goal.returns-clause-answer
unfolding answered
returns-clause-answer c = c.step.ensures.answer
