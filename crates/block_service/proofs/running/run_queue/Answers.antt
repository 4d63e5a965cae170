use Rattle.std.proofs.Common.{◌≡◌, ◌+◌, ◌≤◌, ◌++◌, ℕ, [], length, map, take, drop, None, refl, sym, ap, ◌∙◌, subst, arith}
use Rattle.std.specs.Prelude.{All, get_or, true}
use lib.ListN.{get_elem?}
use Rattle.crossbeam_queue.specs.Passes.{view, IsPassOf}
use Rattle.ticket_queue.specs.Law.{all_from}
use Rattle.ticket_queue.specs.Parties.{put_in, taken_in}
use Rattle.bio_queue.specs.Ops.{fits, kind_of}
use Rattle.bio_queue.specs.Serving.{HasMade}
use Rattle.bio_queue.specs.Standing.{stands_of}
use Rattle.bio_queue.proofs.Desks.{images_of}
use Rattle.block_service.proofs.Account.{all_served}
use Rattle.block_service.proofs.Counts.{inside}
use Rattle.block_service.proofs.Desks.{all_in, at_now, before_there, changed_at, begins_work, found_empty, lent, or_there, sessions_over}
use Rattle.block_service.proofs.running.run_queue.Goals as goal

pub run_desks-requires-clause-desks : goal.run_desks-requires-clause-desks
run_desks-requires-clause-desks g c κs within = λ k d lt.
    let ds = c.args.seated.desks.items in
    let now = c.as_mut_slice.result.now in
    let x = get_or now k d in
    let at = at_now ds now k d c.as_mut_slice.ensures.value lt in
    let r = c.requires.seats k x at in
    let q = c.requires.sessions k x at in
    let few = all_in ds (λ y. length y.jobs.items ≤ 65536) k x c.requires.few at in
    let none = ap (λ v. length (put_in v)) r.2 in
    let done = ap length r.9 in
    (r.0, r.1, omega (arith, few, none), omega (arith, done), begins_work c.args.sectors.now x.worker.sectors x.worker.width x.limit x.worker.cut x.worker.completed.items x.worker.session r.10 r.9 q.1 q.2, c.requires.done k x at)

pub close_desks-requires-clause-submitters : goal.close_desks-requires-clause-submitters
close_desks-requires-clause-submitters g c =
    let ds = c.args.seated.desks.items in
    let new = c.run_desks.new.desks in
    let same = c.run_desks.ensures.since.count ∙ ap length c.as_mut_slice.ensures.value in
    let back = lent c.args.seated.desks.len ds new c.args.seated.desks.ok.0 same in
    subst (All (λ d. IsPassOf c.args.seated.queue.queue d.submitter.pass)) (sym back) (λ k d lt. (c.run_desks.ensures.desks k d lt).0)

pub close_desks-requires-clause-workers : goal.close_desks-requires-clause-workers
close_desks-requires-clause-workers g c =
    let ds = c.args.seated.desks.items in
    let new = c.run_desks.new.desks in
    let same = c.run_desks.ensures.since.count ∙ ap length c.as_mut_slice.ensures.value in
    let back = lent c.args.seated.desks.len ds new c.args.seated.desks.ok.0 same in
    subst (All (λ d. IsPassOf c.args.seated.queue.queue d.worker.ticket)) (sym back) (λ k d lt. (c.run_desks.ensures.desks k d lt).1)

pub close_desks-requires-clause-seats : goal.close_desks-requires-clause-seats
close_desks-requires-clause-seats g c k d at =
    let ds = c.args.seated.desks.items in
    let new = c.run_desks.new.desks in
    let same = c.run_desks.ensures.since.count ∙ ap length c.as_mut_slice.ensures.value in
    let back = lent c.args.seated.desks.len ds new c.args.seated.desks.ok.0 same in
    let was = before_there ds c.as_mut_slice.result.now new c.as_mut_slice.ensures.value c.run_desks.ensures.since k d (ap (λ l. get_elem? l k) (sym back) ∙ at) in
    let r = c.requires.seats k was.0 was.1 in
    let s = was.2 in
    let many = ap length back ∙ same in
    (s.1 ∙ r.3, s.2 ∙ r.4, s.3 ∙ r.5, s.4 ∙ r.6 ∙ ap (λ (n : ℕ). n + k) (sym many), s.5 ∙ r.7, s.6 ∙ r.8)

pub close_desks-requires-clause-closer : goal.close_desks-requires-clause-closer
close_desks-requires-clause-closer g c =
    let ds = c.args.seated.desks.items in
    let new = c.run_desks.new.desks in
    let same = c.run_desks.ensures.since.count ∙ ap length c.as_mut_slice.ensures.value in
    let back = lent c.args.seated.desks.len ds new c.args.seated.desks.ok.0 same in
    let many = ap length back ∙ same in
    (c.requires.closer.0, c.requires.closer.1 ∙ ap (λ (n : ℕ). all_from (n + n)) (sym many))

pub close_desks-requires-clause-done : goal.close_desks-requires-clause-done
close_desks-requires-clause-done g c k d at =
    let ds = c.args.seated.desks.items in
    let new = c.run_desks.new.desks in
    let same = c.run_desks.ensures.since.count ∙ ap length c.as_mut_slice.ensures.value in
    let back = lent c.args.seated.desks.len ds new c.args.seated.desks.ok.0 same in
    let here = ap (λ l. get_elem? l k) (sym back) ∙ at in
    rw (sym (or_there new k d d here)) ((c.run_desks.ensures.desks k d (inside new k d here)).5)

pub returns-clause-served : goal.returns-clause-served
returns-clause-served g c =
    let ds = c.args.seated.desks.items in
    let new = c.run_desks.new.desks in
    let same = c.run_desks.ensures.since.count ∙ ap length c.as_mut_slice.ensures.value in
    let back = lent c.args.seated.desks.len ds new c.args.seated.desks.ok.0 same in
    let all = take c.args.seated.desks.len (new ++ drop (length new) ds) in
    let e = c.in_ok-closed.ensures in
    let closed = c.in_ok-closed.closed in
    let through = c.are_through.ensures c.if-not-are_through.false in
    all_served ds all closed.left.items (map (λ v. v.items) closed.completed.items) (λ b. b.submitter) (λ b. b.number) (λ b. b.op) (λ d. view d.submitter.pass) (λ d. view d.worker.ticket) (λ d. d.jobs.items)
    (λ d. d.worker.completed.items) (λ d. d.worker.cut) (λ d. d.submitter.party) (λ d. d.worker.session.number) (ap length back ∙ same)
    (ap length (found_empty closed.left.items closed.left.len c.is_empty.result closed.left.ok.0 c.is_empty.ensures c.if-not-is_empty.false)) (images_of (λ v. v.items) (λ d. d.worker.completed) all closed.completed.items e.completed)
    e.account e.done
    (λ k d x at was. (changed_at ds c.as_mut_slice.result.now new c.as_mut_slice.ensures.value c.run_desks.ensures.since k d x (ap (λ l. get_elem? l k) (sym back) ∙ at) was).0)
    (λ d. d.submitter.numbered) (λ d. d.submitter.takes_none) (λ d. d.worker.puts_none)
    (λ k d at.
    let was = before_there ds c.as_mut_slice.result.now new c.as_mut_slice.ensures.value c.run_desks.ensures.since k d (ap (λ l. get_elem? l k) (sym back) ∙ at) in
    (was.2.1 ∙ (c.requires.seats k was.0 was.1).3, was.2.7 ∙ (c.requires.sessions k was.0 was.1).0))
    (λ k x at. ap (λ v. length (put_in v)) (c.requires.seats k x at).2)
    (λ k d at.
    let o = all_in c.as_slice.result.now (λ y. (y.jobs.items ≡ []) × (y.worker.cut ≡ None)) k d through (ap (λ l. get_elem? l k) c.as_slice.ensures.value ∙ at) in
    (ap length o.0, o.1))
    (λ d b x r. r.0)
    (λ d b j x q r. (r.0.op_is ∙ q.0, subst (λ o. fits (kind_of o) x.reply ≡ true) q.0 r.0.fitting, (r.1.0, r.1.1, rw (sym q.1) r.1.2)))

pub returns-clause-sessions : goal.returns-clause-sessions
returns-clause-sessions g c =
    let ds = c.args.seated.desks.items in
    let new = c.run_desks.new.desks in
    let same = c.run_desks.ensures.since.count ∙ ap length c.as_mut_slice.ensures.value in
    let back = lent c.args.seated.desks.len ds new c.args.seated.desks.ok.0 same in
    let all = take c.args.seated.desks.len (new ++ drop (length new) ds) in
    let e = c.in_ok-closed.ensures in
    let closed = c.in_ok-closed.closed in
    sessions_over all c.args.sectors.now (map (λ v. v.items) closed.completed.items) closed.sessions.items (λ d. d.worker.completed.items) (λ d. d.worker.session)
    (images_of (λ v. v.items) (λ d. d.worker.completed) all closed.completed.items e.completed) e.sessions
    (λ k d at.
    let here = ap (λ l. get_elem? l k) (sym back) ∙ at in
    let was = before_there ds c.as_mut_slice.result.now new c.as_mut_slice.ensures.value c.run_desks.ensures.since k d here in
    (was.2.7 ∙ (c.requires.sessions k was.0 was.1).0, subst (λ x. HasMade c.args.sectors.now (stands_of x.worker.completed.items) x.worker.session) (or_there new k d d here) ((c.run_desks.ensures.desks k d (inside new k d here)).4.made)))
