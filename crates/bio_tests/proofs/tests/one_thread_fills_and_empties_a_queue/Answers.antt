use Rattle.std.proofs.Common.{◌≡◌, [], length, ap, sym, arith, ◌∙◌}
use Rattle.ticket_queue.specs.Parties.{put_in}
use Rattle.bio_tests.proofs.Pairs.{first_same}
use Rattle.bio_tests.proofs.Turns.{fewer_calls}
use Rattle.bio_tests.proofs.tests.one_thread_fills_and_empties_a_queue.Goals as goal

pub run_back-requires-clause-few : goal.run_back-requires-clause-few
run_back-requires-clause-few g c =
    let none = ap (λ v. length (put_in v)) c.in_ok-queue.ensures.submitters.2 in
    let few = c.in_ok-steps.ensures in
    omega (arith, none, few)

pub run_back-requires-clause-may : goal.run_back-requires-clause-may
run_back-requires-clause-may g c =
    let q = c.in_ok-queue.ensures in
    let w = c.in_ok-queue.field-0.first.worker in
    let b = c.in_ok-sectors.ensures.sessions in
    let same : w.session ≡ b.0 = first_same (sym q.sessions ∙ (c.in-Ok.ensures.sessions ∙ b.2)) in
    rw (q.workers.5, q.workers.6, q.workers.7, same)
    (fewer_calls c.in_ok-sectors.field-0.sectors 32478 64 (length c.in_ok-steps.steps.items) 200 [] b.0 c.in_ok-steps.ensures b.5)
