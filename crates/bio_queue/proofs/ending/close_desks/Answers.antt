use Rattle.std.proofs.Common.{ℕ, ◌+◌, ◌++◌, length, sym, ap, ◌∙◌, subst}
use Rattle.std.specs.Prelude.{All}
use lib.ListN.{length-map}
use Rattle.crossbeam_queue.specs.Passes.{view, IsPassOf}
use Rattle.bio_queue.specs.Served.{IsAccountOf}
use Rattle.bio_queue.proofs.Desks.{each_image, image_at, images_of}
use Rattle.bio_queue.proofs.Parties.{all_map}
use Rattle.bio_queue.proofs.ending.close_desks.Goals as goal

pub close-requires-clause-queue : goal.close-requires-clause-queue
close-requires-clause-queue g c =
    let e = c.take_desks-submitters.ensures in
    let xs = c.args.desks.items in
    let q = c.args.queue.queue in (
      subst (All (λ s. IsPassOf q s.pass)) (sym e.submitters) (all_map (λ s. IsPassOf q s.pass) (λ d. d.submitter) xs c.requires.submitters),
      subst (All (λ w. IsPassOf q w.ticket)) (sym e.workers) (all_map (λ w. IsPassOf q w.ticket) (λ d. d.worker) xs c.requires.workers),
    )

pub close-requires-clause-submitters : goal.close-requires-clause-submitters
close-requires-clause-submitters g c =
    let sides = c.take_desks-submitters in
    each_image _ (λ d. d.submitter) c.args.desks.items sides.result.submitters.items sides.ensures.submitters (λ k d at. let r = c.requires.seats k d at in (r.0, r.1, r.2))

pub close-requires-clause-workers : goal.close-requires-clause-workers
close-requires-clause-workers g c =
    let sides = c.take_desks-submitters in
    let xs = c.args.desks.items in
    let count = ap length sides.ensures.submitters ∙ length-map xs (λ d. d.submitter) in
    each_image _ (λ d. d.worker) xs sides.result.workers.items sides.ensures.workers (λ k d at. let r = c.requires.seats k d at in (r.3 ∙ ap (λ (n : ℕ). n + k) (sym count), r.4, r.5))

pub close-requires-clause-done : goal.close-requires-clause-done
close-requires-clause-done g c =
    let sides = c.take_desks-submitters in
    each_image _ (λ d. d.worker) c.args.desks.items sides.result.workers.items sides.ensures.workers c.requires.done

pub returns-in-Ok-clause-completed : goal.returns-in-Ok-clause-completed
returns-in-Ok-clause-completed g c =
    let sides = c.take_desks-submitters in
    c.in-Ok.ensures.completed ∙ images_of (λ w. w.completed) (λ d. d.worker) c.args.desks.items sides.result.workers.items sides.ensures.workers

pub returns-in-Ok-clause-cut : goal.returns-in-Ok-clause-cut
returns-in-Ok-clause-cut g c =
    let sides = c.take_desks-submitters in
    c.in-Ok.ensures.cut ∙ images_of (λ w. w.cut) (λ d. d.worker) c.args.desks.items sides.result.workers.items sides.ensures.workers

pub returns-in-Ok-clause-sessions : goal.returns-in-Ok-clause-sessions
returns-in-Ok-clause-sessions g c =
    let sides = c.take_desks-submitters in
    c.in-Ok.ensures.sessions ∙ images_of (λ w. w.session) (λ d. d.worker) c.args.desks.items sides.result.workers.items sides.ensures.workers

pub returns-in-Ok-clause-account : goal.returns-in-Ok-clause-account
returns-in-Ok-clause-account g c =
    let sides = c.take_desks-submitters in
    let xs = c.args.desks.items in
    let first = images_of (λ s. view s.pass) (λ d. d.submitter) xs sides.result.submitters.items sides.ensures.submitters in
    let second = images_of (λ w. view w.ticket) (λ d. d.worker) xs sides.result.workers.items sides.ensures.workers in
    subst (λ vs. IsAccountOf vs c.in-Ok.closed.left.items (λ b. b.number)) (λ i. first i ++ second i) c.in-Ok.ensures.account

pub returns-in-Ok-clause-done : goal.returns-in-Ok-clause-done
returns-in-Ok-clause-done g c k d at =
    let sides = c.take_desks-submitters in
    c.in-Ok.ensures.done k d.worker (image_at (λ x. x.worker) c.args.desks.items sides.result.workers.items k d sides.ensures.workers at)
