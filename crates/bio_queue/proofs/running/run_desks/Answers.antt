use denote.Param.Send.{sendable}
use Rattle.lane_sessions.proofs.Sending.{sectors_sync}
use Rattle.bio_queue.specs.contracts.running.run_desks.dyn-1.{Any}
use Rattle.bio_queue.proofs.Sending.{desk_send, queue_sync}
use Rattle.bio_queue.proofs.running.run_desks.Goals as goal

pub run_all-requires-send-W : goal.run_all-requires-send-W
run_all-requires-send-W g c κs within =
    let a = Any g.row.R g.dyn-1 in
    search (desk_send a.2 a.3 a.4 g.dyn-1.2, sendable)

pub run_all-requires-sync-Q : goal.run_all-requires-sync-Q
run_all-requires-sync-Q g c κs within =
    let a = Any g.row.R g.dyn-1 in
    search (queue_sync a.2 a.3 a.4 g.dyn-1.2, sendable)

pub run_all-requires-sync-S : goal.run_all-requires-sync-S
run_all-requires-sync-S g c κs within = search (sectors_sync, sendable)
