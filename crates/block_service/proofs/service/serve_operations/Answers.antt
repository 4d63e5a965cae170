use Rattle.std.proofs.Common.{◌≡◌, ◌≤◌, ℕ, List, [], length, map, refl, sym, ap, ◌∙◌, subst, arith}
use lib.ListN.{length-map}
use Rattle.turn_lock.specs.Passes.{first_of}
use Rattle.lane_sessions.specs.Ending.{lists_of}
use Rattle.lane_sessions.specs.Left.{IsArenaLeft}
use Rattle.lane_sessions.specs.Sets.{AreSets}
use Rattle.bio_queue.specs.declared.bio.Completed.{Completed}
use Rattle.bio_queue.specs.Serving.{MayMake}
use Rattle.bio_queue.proofs.Desks.{image_at, images_of}
use Rattle.block_service.specs.Served.{known_by}
use Rattle.block_service.proofs.Account.{served_as}
use Rattle.block_service.proofs.Desks.{all_from_map}
use Rattle.block_service.proofs.service.serve_operations.Goals as goal

pub run_queue-requires-clause-few : goal.run_queue-requires-clause-few
run_queue-requires-clause-few g c κs within = all_from_map c.in_ok-seated.seated.desks.items c.args.jobs.items (λ d. d.jobs) (λ v. length v.items ≤ 65536) c.in_ok-seated.ensures.jobs c.requires.few

pub run_queue-requires-clause-seats : goal.run_queue-requires-clause-seats
run_queue-requires-clause-seats g c κs within k d at =
    let r = c.in_ok-seated.ensures.seats k d at in
    let q = c.in_ok-seated.ensures.queue in
    (r.0, r.1, r.2, r.3, r.4 ∙ sym q.0, r.5 ∙ sym q.1, r.6, r.7 ∙ sym q.0, r.8 ∙ sym q.1, r.9, r.10)

pub run_queue-requires-clause-sessions : goal.run_queue-requires-clause-sessions
run_queue-requires-clause-sessions g c κs within k d at =
    let r = c.in_ok-seated.ensures.seats k d at in
    let begun = c.in_ok-begun.begun in
    let b = c.in_ok-begun.ensures.sessions k d.worker.session (image_at (λ x. x.worker.session) c.in_ok-seated.seated.desks.items begun.sessions.items k d (sym c.in_ok-seated.ensures.sessions) at) in
    (b.0, subst (λ (p : ℕ × ℕ × ℕ). MayMake begun.sectors p.0 p.1 p.2 [] d.worker.session) (λ i. (sym r.7 i, sym r.8 i, sym r.11 i)) b.1, b.2)

pub end-requires-clause-callers : goal.end-requires-clause-callers
end-requires-clause-callers g c =
    let over = c.in_ok-over.over.completed.items in
    let desks = c.in_ok-seated.seated.desks.items in
    let a = c.in_ok-over.ensures.served.count in
    let b = length-map over (λ v. v.items) in
    let d = length-map desks (λ x. x.jobs.items) in
    let e = ap length c.in_ok-seated.ensures.jobs in
    let f = length-map desks (λ x. x.jobs) in
    let n = c.len-desks.ensures ∙ c.args.jobs.ok.0 in
    let callers = c.in_ok-begun.ensures.callers in
    omega (arith, a, b, d, e, f, n, callers)

pub end-requires-clause-sets : goal.end-requires-clause-sets
end-requires-clause-sets g c =
    let over = c.in_ok-over.over.completed.items in
    let desks = c.in_ok-seated.seated.desks.items in
    let a = c.in_ok-over.ensures.served.count in
    let b = length-map over (λ v. v.items) in
    let d = length-map desks (λ x. x.jobs.items) in
    let e = ap length c.in_ok-seated.ensures.jobs in
    let f = length-map desks (λ x. x.jobs) in
    let n = c.len-desks.ensures ∙ c.args.jobs.ok.0 in
    let begun = c.in_ok-begun.begun in
    let many : c.len-desks.result ≡ length over = omega (arith, a, b, d, e, f, n) in
    subst (λ (m : ℕ). AreSets m begun.sectors.arenas.items (first_of begun.sectors.pool.turn).first (lists_of begun.aside.items)) many c.in_ok-begun.ensures.sets

pub end-requires-clause-made : goal.end-requires-clause-made
end-requires-clause-made g c = (c.args.state, c.in_ok-begun.ensures.arena, c.requires.opened)

pub returns-clause-served : goal.returns-clause-served
returns-clause-served g c =
    let seated = c.in_ok-seated.seated in
    let jobs = images_of (λ v. v.items) (λ d. d.jobs) seated.desks.items c.args.jobs.items (sym c.in_ok-seated.ensures.jobs) in
    served_as (map (λ d. d.jobs.items) seated.desks.items) (map (λ v. v.items) c.args.jobs.items) (map (λ v. v.items) c.in_ok-over.over.completed.items) (map (λ v. v.items) c.in_ok-served.served.completed.items)
    (sym jobs) (ap (λ v. map (λ w. w.items) v.items) (sym c.in_ok-served.ensures.completed)) c.in_ok-over.ensures.served

pub returns-clause-arena : goal.returns-clause-arena
returns-clause-arena g c =
    let over = c.in_ok-over.over.completed.items in
    let desks = c.in_ok-seated.seated.desks.items in
    let a = c.in_ok-over.ensures.served.count in
    let b = length-map over (λ v. v.items) in
    let d = length-map desks (λ x. x.jobs.items) in
    let e = ap length c.in_ok-seated.ensures.jobs in
    let f = length-map desks (λ x. x.jobs) in
    let many : length over ≡ length c.args.jobs.items = omega (arith, a, b, d, e, f) in
    let served = c.in_ok-served.served in
    let arena = c.in_ok-served.ensures.arena c.args.state c.in_ok-begun.ensures.arena c.requires.opened in
    let rows = ap (λ v. map (λ w. w.items) v.items) (sym c.in_ok-served.ensures.completed) in
    subst (λ (p : ℕ × List (List Completed)). IsArenaLeft p.0 c.args.state (known_by p.1) served.words) (λ i. (many i, rows i)) arena
