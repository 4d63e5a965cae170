-- Threads may pass a pool's passes on and share the pool: each type has the law since its fields have it.
use mathlib.Core.List.{[], ◌∷◌}
use mir.Syntax.{Ty, Sym}
use denote.Exit.{Kept}
use denote.RattleType.{RattleType}
use denote.Param.{arg, param}
use denote.Struct.Tuple.{TupleAt, type_at}
use denote.Param.Send.{IsSend, IsSync, param_sync, arg_sync, struct_sync, recorded_sync, sendable}
use denote.Struct.Declared.{shape}
use Rattle.std.proofs.Crossing.{crosses}
use Rattle.std.specs.contracts.alloc.Global as Heap
use Rattle.std.specs.contracts.impls.GlobalAllocator.TheImpl as allocator
use Rattle.std.specs.contracts.vec.Vec as Vec
use Rattle.std.specs.contracts.snapshot.Snapshot as Snapshot
use Rattle.turn_lock.proofs.pass.TurnPass.TheSendSync as pass
use Rattle.turn_lock.proofs.turn.Turn.TheSendSync as turn
use Rattle.turn_lock.specs.contracts.pass.TurnPass as TurnPass
use Rattle.turn_lock.specs.contracts.turn.Turn as Turn
use Rattle.lane_pool.proofs.holders.Holder.TheSendSync as holder
use Rattle.lane_pool.proofs.sets.LaneSet.TheSendSync as lane_set
use Rattle.lane_pool.proofs.sets.PowerOff.TheSendSync as power_off
use Rattle.lane_pool.specs.contracts.pool.Pool as Pool
use Rattle.lane_pool.specs.contracts.pool.PoolPart as PoolPart
use Rattle.lane_pool.specs.contracts.pool.PoolParted.TheImpl as parted
use Rattle.lane_pool.specs.contracts.sets.LaneSet as LaneSet
use Rattle.lane_pool.specs.contracts.turns.LanePool as LanePool

opening_send : IsSend (Snapshot.the_row (Vec.the_row LaneSet.the_row Heap.the_row allocator.ghosts))
opening_send = search crosses depth 20

pool_send : IsSend Pool.the_row
pool_send = search (opening_send, lane_set.the_send, holder.the_send, power_off.the_send, sendable, crosses) depth 20

pub pass_send : IsSend (TurnPass.the_row Pool.the_row PoolPart.the_row parted.ghosts)
pass_send = pass.the_send Pool.the_row PoolPart.the_row parted.ghosts pool_send

turn_sync : IsSync (Turn.the_field Pool.the_row PoolPart.the_row parted.ghosts).row
turn_sync = turn.the_field_sync Pool.the_row PoolPart.the_row parted.ghosts pool_send

lane_pool_field_sync : IsSync (LanePool.the_field).row
lane_pool_field_sync = struct_sync (shape LanePool.the_type) (turn_sync, tt)

pub lane_pool_sync : IsSync LanePool.the_row
lane_pool_sync = recorded_sync (LanePool.the_field).row _ _ (LanePool.the_type).to_one lane_pool_field_sync

-- a closure over two references
pub closure_sync : (δ : Ty) (k : Kept) (ν : Sym) (A B : RattleType) → IsSync A → IsSync B → IsSync (param 2 (arg δ k (TupleAt ν (A ∷ B ∷ []))))
closure_sync δ k ν A B a b =
    let T = type_at ν (A ∷ B ∷ []) in
    let fields = struct_sync (shape T) (a, (b, tt)) in
    let whole : IsSync (TupleAt ν (A ∷ B ∷ [])) = recorded_sync _ T.D T.to T.to_one fields in
    param_sync 2 (arg δ k (TupleAt ν (A ∷ B ∷ []))) (arg_sync δ k (TupleAt ν (A ∷ B ∷ [])) whole)
