use Rattle.std.proofs.Common.{ap, map}
use Rattle.bio_tests.proofs.Pairs.{both_dealt, first_at, second_at}
use Rattle.bio_tests.proofs.parties.seat.Goals as goal

pub returns-clause-submitters : goal.returns-clause-submitters
returns-clause-submitters g c =
    let o = c.requires in
    let r = c.args.opened in
    let a = c.in_ok-submitters.submitters.0 in
    let b = c.in_ok-submitters.submitters.1 in
    let d = both_dealt r.queue.queue 0 (map (λ s. s.pass) r.submitters.items) a.pass b.pass o.passes (ap (map (λ s. s.pass)) c.in_ok-submitters.ensures) in
    let x = o.submitters 0 a (first_at r.submitters.items a b c.in_ok-submitters.ensures) in
    let y = o.submitters 1 b (second_at r.submitters.items a b c.in_ok-submitters.ensures) in
    (d.0.0, d.1.0, d.0.1, d.1.1, x.0, x.1, x.2, y.0, y.1, y.2)

pub returns-clause-workers : goal.returns-clause-workers
returns-clause-workers g c =
    let o = c.requires in
    let r = c.args.opened in
    let a = c.in_ok-workers.workers.0 in
    let b = c.in_ok-workers.workers.1 in
    let d = both_dealt r.queue.queue 2 (map (λ w. w.ticket) r.workers.items) a.ticket b.ticket o.tickets (ap (map (λ w. w.ticket)) c.in_ok-workers.ensures) in
    let x = o.workers 0 a (first_at r.workers.items a b c.in_ok-workers.ensures) in
    let y = o.workers 1 b (second_at r.workers.items a b c.in_ok-workers.ensures) in
    (d.0.0, d.1.0, d.0.1, d.1.1, x.0, x.1, x.2, x.3, x.4, y.0, y.1, y.2, y.3, y.4)
