use Rattle.std.proofs.Common.{sym, ap, subst}
use Rattle.crossbeam_queue.specs.Passes.{view}
use Rattle.crossbeam_queue.proofs.Lists.{at_map}
use Rattle.ticket_queue.specs.Parties.{taken_in}
use Rattle.bio_queue.specs.Seats.{AreDealt}
use Rattle.bio_queue.proofs.Working.{none_done}
use Rattle.bio_queue.proofs.queue.BioQueue.of.Goals as goal

pub returns-clause-done : goal.returns-clause-done
returns-clause-done g c k w at _ =
    let xs = c.seat_workers.result.items in
    let o = c.seat_workers.ensures in
    let e = o.each k w at in
    let dealt = subst (AreDealt c.in-Ok.parts.queue.queue c.args.submitters) (sym o.passes) c.in-Ok.ensures.others in
    none_done (taken_in (view w.ticket)) w.completed.items w.cut (ap taken_in (dealt k w.ticket (at_map (λ v. v.ticket) xs k w at)).1) e.3 e.4
