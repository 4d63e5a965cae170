use Rattle.std.proofs.Common.{refl, ◌∙◌, arith}
use Rattle.crossbeam_queue.specs.Passes.{view}
use Rattle.ticket_queue.specs.Parties.{put_in}
use Rattle.bio_queue.specs.Submitted.{submitted_begins}
use Rattle.bio_queue.proofs.stepping.DeskShiftBioQueueSectors.step.Goals as goal

pub returns-then-is_cut-clause-since : goal.returns-then-is_cut-clause-since
returns-then-is_cut-clause-since g c =
    let d = c.args.self.now in
    (submitted_begins (put_in (view d.submitter.pass)) d.jobs.items, refl, refl, refl, refl, refl, refl, refl, refl)

pub returns-then-eq-clause-may : goal.returns-then-eq-clause-may
returns-then-eq-clause-may g c =
    let e = c.submit_next-sent.ensures in
    let r = c.requires in (
      (e.queue.0 ∙ r.0.0, e.queue.2 ∙ r.0.1),
      rw e.others.0 r.1,
      (let a = e.submitted.sum in let b = r.2 in omega (arith, a, b)),
      rw (e.others.0, e.others.1) r.3,
      rw (e.others.0, e.others.1) r.4,
      rw e.others.0 r.5,
    )

pub serve_next-requires-clause-done : goal.serve_next-requires-clause-done
serve_next-requires-clause-done g c = rw c.submit_next-sent.ensures.others.0 c.requires.5
