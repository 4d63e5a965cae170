use Rattle.lane_session_tests.proofs.Going.{more_after_rest, resting}
use Rattle.lane_session_tests.proofs.calls.pause.Goals as goal

pub returns-clause-more : goal.returns-clause-more
returns-clause-more g c = λ n may. more_after_rest c.args.sectors.now c.args.session.now c.rest.new.session c.rest.ensures.rests c.rest.ensures.knows n may

pub returns-clause-resting : goal.returns-clause-resting
returns-clause-resting g c = resting c.args.sectors.now c.args.session.now c.rest.new.session c.rest.ensures.rests c.rest.ensures.knows c.requires.between
