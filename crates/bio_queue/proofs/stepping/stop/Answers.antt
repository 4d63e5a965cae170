use Rattle.std.proofs.Common.{arith}
use Rattle.bio_queue.proofs.Working.{may_make}
use Rattle.bio_queue.proofs.stepping.stop.Goals as goal

pub pause-requires-clause-may : goal.pause-requires-clause-may
pause-requires-clause-may g c =
    let w = c.args.worker.now in
    may_make c.args.sectors.now w.sectors w.width c.args.limit 0 w.cut w.completed.items w.session c.requires.works c.requires.going (let a = c.requires.within in omega (arith, a))

pub returns-clause-works : goal.returns-clause-works
returns-clause-works g c = c.pause.ensures.works c.args.limit c.requires.works

pub returns-clause-done : goal.returns-clause-done
returns-clause-done g c = let s = c.pause.ensures.same in rw (s.0, s.2, s.3, s.4, s.5, c.pause.ensures.number) c.requires.done
