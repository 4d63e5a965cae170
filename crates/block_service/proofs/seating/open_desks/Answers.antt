use Rattle.std.proofs.Common.{◌≡◌, ◌+◌, ℕ, length, map, refl, sym, ap, ◌∙◌, arith}
use Rattle.std.specs.Prelude.{All, true}
use mathlib.Core.Option.{some}
use lib.ListN.{get_elem?, length-map}
use Rattle.ticket_queue.specs.Law.{none_yet}
use Rattle.bio_queue.proofs.Desks.{image_at, images_of}
use Rattle.bio_queue.specs.Ops.{fits_in, kind_of}
use Rattle.block_service.proofs.Desks.{all_in}
use Rattle.block_service.proofs.seating.open_desks.Goals as goal

pub seat_desks-requires-clause-fitting : goal.seat_desks-requires-clause-fitting
seat_desks-requires-clause-fitting g c k s v at e = let r = c.in-Ok.ensures.submitters k s at in rw (r.1, r.2) (all_in c.args.jobs.items (λ w. All (λ j. (j.done.kind ≡ kind_of j.op) × (fits_in c.args.high c.args.width j.op ≡ true)) w.items) k v c.requires.fitting e)

pub returns-clause-sessions : goal.returns-clause-sessions
returns-clause-sessions g c =
    let o = c.in-Ok.opened in
    sym (images_of (λ w. w.session) (λ d. d.worker) c.seat_desks.result.items o.workers.items (sym c.seat_desks.ensures.workers)) ∙ c.in-Ok.ensures.sessions

pub returns-clause-seats : goal.returns-clause-seats
returns-clause-seats g c k d at =
    let o = c.in-Ok.opened in
    let f = c.in-Ok.ensures in
    let e = c.seat_desks.ensures in
    let ds = c.seat_desks.result.items in
    let sub = image_at (λ x. x.submitter) ds o.submitters.items k d (sym e.submitters) at in
    let wor = image_at (λ x. x.worker) ds o.workers.items k d (sym e.workers) at in
    let p = f.passes k d.submitter.pass (image_at (λ s. s.pass) o.submitters.items (map (λ s. s.pass) o.submitters.items) k d.submitter refl sub) in
    let t = f.tickets k d.worker.ticket (image_at (λ w. w.ticket) o.workers.items (map (λ w. w.ticket) o.workers.items) k d.worker refl wor) in
    let s = f.submitters k d.submitter sub in
    let w = f.workers k d.worker wor in
    let none : 0 + k ≡ k = omega arith in
    let a = ap length e.submitters in
    let b = length-map ds (λ x. x.submitter) in
    let many : c.len-count.result ≡ length ds = (let n = f.count in omega (arith, a, b, n)) in
    (p.0, t.0, p.1 ∙ ap none_yet none, s.0, s.1, s.2, w.0 ∙ ap (λ (n : ℕ). n + k) many, w.1, w.2, w.3, w.4, e.limit k d at)

pub returns-clause-done : goal.returns-clause-done
returns-clause-done g c k d at = c.in-Ok.ensures.done k d.worker (image_at (λ x. x.worker) c.seat_desks.result.items c.in-Ok.opened.workers.items k d (sym c.seat_desks.ensures.workers) at)
