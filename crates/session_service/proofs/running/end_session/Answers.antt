use Rattle.std.proofs.Common.{◌∙◌, ap, arith}
use Rattle.session_service.proofs.Steps as steps
use Rattle.session_service.proofs.running.end_session.Goals as goal

pub rest_session-requires : goal.rest_session-requires
rest_session-requires g c = (c.args.script.now, c.args.q, c.requires.0, c.requires.1.at)

pub give_back-requires : goal.give_back-requires
give_back-requires g c = record {
  may =
      let last = c.requires.2 in
      steps.may_order c.args.service.now c.args.script.now c.args.q c.requires.0 c.rest_session.new.runner (c.rest_session.ensures.at c.args.script.now c.args.q c.requires.0 c.requires.1.at) (omega (arith, last));
}

pub returns : goal.returns
returns g c =
    let rested = c.rest_session.ensures in
    let replies = c.requires.0 in
    steps.ends_at c.args.service.now c.args.script.now c.args.q replies c.rest_session.new.runner c.give_back.new.pass (rested.at c.args.script.now c.args.q replies c.requires.1.at)
    (ap (λ v. v.items) rested.kept.1 ∙ c.requires.1.said) rested.rests c.requires.2 c.give_back.ensures.pass c.give_back.ensures.outside c.give_back.ensures.given
