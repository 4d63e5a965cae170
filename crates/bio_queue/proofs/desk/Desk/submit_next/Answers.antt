use Rattle.std.proofs.Common.{rules, ap}
use Rattle.crossbeam_queue.specs.Passes.{view}
use Rattle.ticket_queue.specs.Parties.{put_in}
use Rattle.bio_queue.specs.Submitted.{none_submitted, one_submitted}
use Rattle.bio_queue.proofs.desk.Desk.submit_next.Goals as goal

pub returns-in-Ok-clause-submitted : goal.returns-in-Ok-clause-submitted
returns-in-Ok-clause-submitted g c =
    let s = c.args.self.now in
    let a = c.in-Ok.ensures.accepted in
    one_submitted (put_in (view s.submitter.pass)) (put_in (view c.submit.new.self.pass)) s.jobs.items c.pop.new.self.items a.0 c.in-Some.job a.3 c.in-Some.ensures.items (a.1, a.2)

pub returns-in-Err-clause-submitted : goal.returns-in-Err-clause-submitted
returns-in-Err-clause-submitted g c =
    let s = c.args.self.now in
    none_submitted (put_in (view s.submitter.pass)) (put_in (view c.submit.new.self.pass)) s.jobs.items c.push_reserved.new.self.items (ap put_in c.in-Err.ensures.unchanged) (search rules)
