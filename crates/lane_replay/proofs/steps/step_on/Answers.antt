use Rattle.std.proofs.Common.{◌≡◌, suc, ◌-◌, arith}
use Rattle.lane_core.specs.Held.{held_by}
use Rattle.lane_replay.proofs.ManySteps.{after_answer, after_idle, after_went}
use Rattle.lane_replay.proofs.steps.step_on.Goals as goal

pub returns-in_ok-say-in-Nothing-clause-same : goal.returns-in_ok-say-in-Nothing-clause-same
returns-in_ok-say-in-Nothing-clause-same c =
    let count : c.args.left ≡ suc (c.args.left - 1) = omega arith in
    after_idle c.args.left (c.args.left - 1) c.args.lane (held_by c.args.core.now) (held_by c.step_lane.new.core) c.args.text.now.items c.say.new.text.items count
    c.in-Nothing.ensures.answer c.step_lane.ensures.held c.in_ok-say-in-Nothing.ensures

pub returns-in-Went-clause-same : goal.returns-in-Went-clause-same
returns-in-Went-clause-same c =
    let count : c.args.left ≡ suc (c.args.left - 1) = omega arith in
    after_went c.args.left (c.args.left - 1) c.args.lane (held_by c.args.core.now) (held_by c.step_lane.new.core) c.args.text.now.items c.in-Went.field-0 count
    c.in-Went.ensures.answer c.step_lane.ensures.held

pub returns-in_ok-say_answer-in-Done-clause-same : goal.returns-in_ok-say_answer-in-Done-clause-same
returns-in_ok-say_answer-in-Done-clause-same c =
    let count : c.args.left ≡ suc (c.args.left - 1) = omega arith in
    after_answer c.args.left (c.args.left - 1) c.args.lane (held_by c.args.core.now) (held_by c.step_lane.new.core) c.args.text.now.items c.say_answer.new.text.items
    c.in-Done.field-0 c.in-Done.answer count c.in-Done.ensures.answer c.step_lane.ensures.held c.in_ok-say_answer-in-Done.ensures
