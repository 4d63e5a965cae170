use Rattle.std.proofs.Common.{◌≡◌, [], None}
use Rattle.block_service.proofs.Desks.{all_taken, found_empty, one_more}
use Rattle.block_service.proofs.running.are_through.Goals as goal

pub loop-desk-preserved : goal.loop-desk-preserved
loop-desk-preserved g c =
    let d = c.desk-item.result in
    one_more c.args.desks.now c.loop-desk.desk-index d (λ x. (x.jobs.items ≡ []) × (x.worker.cut ≡ None)) c.loop-desk-test.true c.desk-item.is c.loop-desk.invariant
    (found_empty d.jobs.items d.jobs.len c.is_empty.result d.jobs.ok.0 c.is_empty.ensures c.if-not-is_empty.false, c.is_cut.ensures.no c.if-is_cut.false)

pub returns : goal.returns
returns g c = λ yes. all_taken c.args.desks.now c.loop-desk.desk-index (λ x. (x.jobs.items ≡ []) × (x.worker.cut ≡ None)) c.loop-desk-test.false c.loop-desk.invariant
