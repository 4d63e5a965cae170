use Rattle.lane_calls.specs.Sessions.{made_with}
use Rattle.bio_queue.specs.Standing.{stands_of}
use Rattle.bio_queue.proofs.Resting.{after_rest}
use Rattle.bio_queue.proofs.Working.{spends_only, works_rested}
use Rattle.bio_queue.proofs.worker.Worker.pause.Goals as goal

pub returns-clause-works : goal.returns-clause-works
returns-clause-works g c = λ limit works.
    let s = c.args.self.now in
    works_rested c.args.sectors.now s.sectors s.width limit s.cut (stands_of s.completed.items) s.session c.rest.new.session 0 c.requires.going c.requires.may
    (λ n may. after_rest c.args.sectors.now s.session c.rest.new.session c.rest.ensures.rests c.rest.ensures.knows s.sectors s.width n (stands_of s.completed.items) may)
    (spends_only 0 (made_with s.session.kept) 0 s.session c.rest.new.session c.rest.ensures.rests.pool) works
