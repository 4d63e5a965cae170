use Rattle.std.proofs.Common.{◌≡◌, false, true≢false, length, refl, sym, ap, ◌∙◌, rules}
use Rattle.crossbeam_queue.specs.Passes.{view}
use Rattle.ticket_queue.specs.Parties.{taken_in}
use Rattle.ticket_queue.proofs.Orders.{hand_is, hand_test}
use Rattle.lane_calls.specs.Sessions.{made_with}
use Rattle.bio_queue.specs.Standing.{stands_of}
use Rattle.bio_queue.proofs.Resting.{after_rest, fewer}
use Rattle.bio_queue.proofs.Serving.{by_turn, last_fits, more_done, off_done, same_done}
use Rattle.bio_queue.proofs.Working.{one_more, spends_only, works_off, works_rested, works_served}
use Rattle.bio_queue.proofs.worker.Worker.serve_one.Goals as goal

pub take-requires-clause-party : goal.take-requires-clause-party
take-requires-clause-party g c = (c.args.self.now.party, hand_is c.args.self.now.party (view c.args.self.now.ticket) c.args.self.now.hand)

pub invariant_of-self : goal.invariant_of-self
invariant_of-self g c =
    let s = c.args.self.now in
    record { hand = hand_test s.party (view c.take.new.pass) (c.take.ensures.party s.party (hand_is s.party (view s.ticket) s.hand)); puts_none = ap length c.take.ensures.put ∙ s.puts_none; wide = s.wide }

pub returns-in_default-clause-done : goal.returns-in_default-clause-done
returns-in_default-clause-done g c = rw c.rest.ensures.rests.same.number (same_done (taken_in (view c.args.self.now.ticket)) (taken_in (view c.take.new.pass)) c.args.self.now.completed.items c.args.self.now.cut (ap taken_in (c.in_default.ensures.same refl)) c.requires.done)

pub returns-in_default-clause-rests : goal.returns-in_default-clause-rests
returns-in_default-clause-rests g c = λ _.
    let s = c.args.self.now in
    (c.rest.ensures.rests.same.kept, λ n may. after_rest c.args.sectors.now s.session c.rest.new.session c.rest.ensures.rests c.rest.ensures.knows s.sectors s.width n (stands_of s.completed.items) may)

pub returns-then-not-fits_in-clause-done : goal.returns-then-not-fits_in-clause-done
returns-then-not-fits_in-clause-done g c fit =
    let yes = last_fits (taken_in (view c.args.self.now.ticket)) (taken_in (view c.take.new.pass)) c.in-Some.ticket c.in-Some.ensures.taken fit in
    let no : c.fits_in.result ≡ false = search rules in
    absurd (true≢false (sym yes ∙ (sym c.fits_in.ensures ∙ no)))

pub returns-then-not-fits_in-clause-served : goal.returns-then-not-fits_in-clause-served
returns-then-not-fits_in-clause-served g c = λ _ fit.
    let yes = last_fits (taken_in (view c.args.self.now.ticket)) (taken_in (view c.take.new.pass)) c.in-Some.ticket c.in-Some.ensures.taken fit in
    let no : c.fits_in.result ≡ false = search rules in
    absurd (true≢false (sym yes ∙ (sym c.fits_in.ensures ∙ no)))

pub returns-then-not-fits_in-clause-may : goal.returns-then-not-fits_in-clause-may
returns-then-not-fits_in-clause-may g c = λ _ n may.
    let s = c.args.self.now in fewer c.args.sectors.now s.sectors s.width n (stands_of s.completed.items) s.session may

pub returns-clause-done : goal.returns-clause-done
returns-clause-done g c =
    let s = c.args.self.now in
    let w = c.make.new.self in
    let o = c.make.ensures in
    let is = ap (λ p. taken_in (view p)) o.same.0 ∙ c.in-Some.ensures.taken in
    rw (o.same.2, o.same.3, o.number) (by_turn c.make.result
    (λ e. let d = o.served e in more_done (taken_in (view s.ticket)) (taken_in (view w.ticket)) s.completed.items w.completed.items s.cut w.cut c.in-Some.ticket d.0 is d.1 c.requires.going (o.going e) (d.2, d.3) c.requires.done)
    (λ e. absurd (o.some e))
    (λ e. let d = o.off e in off_done (taken_in (view s.ticket)) (taken_in (view w.ticket)) s.completed.items w.completed.items s.cut w.cut c.in-Some.ticket is d.0 c.requires.going d.1 c.requires.done))

pub returns-in_default-clause-works : goal.returns-in_default-clause-works
returns-in_default-clause-works g c = λ limit works.
    let s = c.args.self.now in
    works_rested c.args.sectors.now s.sectors s.width limit s.cut (stands_of s.completed.items) s.session c.rest.new.session 1 c.requires.going c.requires.may
    (λ n may. after_rest c.args.sectors.now s.session c.rest.new.session c.rest.ensures.rests c.rest.ensures.knows s.sectors s.width n (stands_of s.completed.items) may)
    (spends_only 0 (made_with s.session.kept) 0 s.session c.rest.new.session c.rest.ensures.rests.pool) works

pub returns-clause-works : goal.returns-clause-works
returns-clause-works g c = λ limit works.
    let s = c.args.self.now in
    let w = c.make.new.self in
    let o = c.make.ensures in
    rw (o.same.2, o.same.3) (by_turn c.make.result
    (λ e. let d = o.served e in
    works_served c.args.sectors.now s.sectors s.width limit s.cut w.cut (stands_of s.completed.items) (stands_of w.completed.items) s.session w.session c.requires.going (o.going e)
    (one_more s.completed.items w.completed.items d.0 d.1) c.requires.may (o.may e) o.power works)
    (λ e. absurd (o.some e))
    (λ e. let d = o.off e in works_off c.args.sectors.now s.sectors s.width limit s.cut w.cut (stands_of s.completed.items) (stands_of w.completed.items) s.session w.session c.in-Some.ticket.item d.1 d.2 (o.told e) o.power works))
