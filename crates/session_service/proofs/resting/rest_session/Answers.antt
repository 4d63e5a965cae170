use Rattle.std.proofs.Common.{ℕ, refl, sym, subst}
use Rattle.lane_calls.specs.Sessions.{Know}
use Rattle.session_service.proofs.Steps as steps
use Rattle.session_service.proofs.resting.rest_session.Goals as goal

pub rest-requires : goal.rest-requires
rest-requires g c =
    let at = c.requires.3 in
    let session = c.args.runner.now.session in
    record { know = (at.known, subst (λ (n : ℕ). Know c.args.service.now.sectors n at.known session) (sym at.knows.know.seated.number) at.knows.know) }

pub returns-clause-kept : goal.returns-clause-kept
returns-clause-kept g c = (c.rest.ensures.rests.same.number, refl, refl)

pub returns-clause-at : goal.returns-clause-at
returns-clause-at g c = λ script q replies at.
    steps.rested_at c.args.service.now script q replies c.args.runner.now c.rest.new.session at c.rest.ensures.knows c.rest.ensures.rests

pub returns-clause-rests : goal.returns-clause-rests
returns-clause-rests g c = c.rest.ensures.rests.same.kept
