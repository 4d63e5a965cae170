use Rattle.bio_queue.proofs.Working.{may_make}
use Rattle.bio_queue.proofs.stepping.take_turn.Goals as goal

pub serve_one-requires-clause-may : goal.serve_one-requires-clause-may
serve_one-requires-clause-may g c κs within =
    let w = c.args.worker.now in
    may_make c.args.sectors.now w.sectors w.width c.args.limit 1 w.cut w.completed.items w.session c.requires.works c.requires.going c.requires.within

pub returns-in-Served-clause-works : goal.returns-in-Served-clause-works
returns-in-Served-clause-works g c = c.serve_one.ensures.works c.args.limit c.requires.works

pub returns-in-Empty-clause-works : goal.returns-in-Empty-clause-works
returns-in-Empty-clause-works g c = c.serve_one.ensures.works c.args.limit c.requires.works

pub returns-in-Off-clause-works : goal.returns-in-Off-clause-works
returns-in-Off-clause-works g c = c.serve_one.ensures.works c.args.limit c.requires.works
