-- Threads may pass sessions on and share their sectors: each type has the law since its fields have it.
use denote.Param.Send.{IsSend, IsSync, struct_send, struct_sync, recorded_send, recorded_sync, plain_send, sendable}
use denote.Struct.Declared.{shape}
use Rattle.std.proofs.Crossing.{crosses}
use Rattle.std.proofs.vec.Vec.TheSendSync as vec
use Rattle.std.proofs.alloc.Global.TheSendSync as heap
use Rattle.std.specs.contracts.alloc.Global as Heap
use Rattle.std.specs.contracts.impls.GlobalAllocator.TheImpl as allocator
use Rattle.std.specs.contracts.vec.Vec as Vec
use Rattle.std.specs.contracts.snapshot.Snapshot as Snapshot
use Rattle.turn_lock.proofs.pass.TurnPass.TheSendSync as pass
use Rattle.turn_lock.proofs.turn.Turn.TheSendSync as turn
use Rattle.turn_lock.specs.contracts.pass.TurnPass as TurnPass
use Rattle.turn_lock.specs.contracts.turn.Turn as Turn
use Rattle.lane_table.proofs.arena.Arena.TheSendSync as arena
use Rattle.lane_table.specs.contracts.arena.Arena as Arena
use Rattle.lane_table.proofs.session_pass.Pass.TheSendSync as lane_pass
use Rattle.lane_pool.proofs.holders.Holder.TheSendSync as holder
use Rattle.lane_pool.proofs.sets.LaneSet.TheSendSync as lane_set
use Rattle.lane_pool.proofs.sets.PowerOff.TheSendSync as power_off
use Rattle.lane_pool.specs.contracts.pool.Pool as Pool
use Rattle.lane_pool.specs.contracts.pool.PoolPart as PoolPart
use Rattle.lane_pool.specs.contracts.pool.PoolParted.TheImpl as parted
use Rattle.lane_pool.specs.contracts.sets.LaneSet as LaneSet
use Rattle.lane_pool.specs.contracts.turns.LanePool as LanePool
use Rattle.lane_calls.proofs.session.Kept.TheSendSync as kept
use Rattle.lane_calls.specs.contracts.session.Caller as Caller
use Rattle.lane_calls.specs.contracts.session.Sectors as Sectors
use Rattle.lane_calls.specs.contracts.session.Session as Session

opening_send : IsSend (Snapshot.the_row (Vec.the_row LaneSet.the_row Heap.the_row allocator.ghosts))
opening_send = search crosses depth 20

pool_send : IsSend Pool.the_row
pool_send = search (opening_send, lane_set.the_send, holder.the_send, power_off.the_send, sendable, crosses) depth 20

turn_sync : IsSync (Turn.the_field Pool.the_row PoolPart.the_row parted.ghosts).row
turn_sync = turn.the_field_sync Pool.the_row PoolPart.the_row parted.ghosts pool_send

lane_pool_field_sync : IsSync (LanePool.the_field).row
lane_pool_field_sync = struct_sync (shape LanePool.the_type) (turn_sync, tt)

pub lane_pool_sync : IsSync LanePool.the_row
lane_pool_sync = recorded_sync (LanePool.the_field).row _ _ (LanePool.the_type).to_one lane_pool_field_sync

pass_field_send : IsSend (TurnPass.the_field Pool.the_row PoolPart.the_row parted.ghosts).row
pass_field_send = pass.the_field_send Pool.the_row PoolPart.the_row parted.ghosts pool_send

caller_field_send : IsSend (Caller.the_field).row
caller_field_send = struct_send (shape Caller.the_type) (pass_field_send, (search (sendable, crosses) depth 20, (plain_send _ _ _ _ _, (plain_send _ _ _ _ _, tt))))

pub session_field_send : IsSend (Session.the_field).row
session_field_send = struct_send (shape Session.the_type) (plain_send _ _ _ _ _, (search (lane_pass.the_send, sendable, crosses) depth 20, (caller_field_send, (search (kept.the_send, sendable, crosses) depth 20, tt))))

pub session_send : IsSend Session.the_row
session_send = recorded_send (Session.the_field).row _ _ (Session.the_type).to_one session_field_send

pub sectors_field_sync : IsSync (Sectors.the_field).row
sectors_field_sync = struct_sync (shape Sectors.the_type) (vec.the_sync Arena.the_row Heap.the_row allocator.ghosts arena.the_sync heap.the_sync, (lane_pool_field_sync, tt))

pub sectors_sync : IsSync Sectors.the_row
sectors_sync = recorded_sync (Sectors.the_field).row _ _ (Sectors.the_type).to_one sectors_field_sync
