-- Threads may pass sessions on and share a service: each type has the law since its fields have it.
use mathlib.Core.List.{[], ◌∷◌}
use mir.Syntax.{Ty, Sym}
use denote.Exit.{Kept}
use denote.RattleType.{RattleType}
use denote.Param.{arg, param}
use denote.Struct.Tuple.{TupleAt, type_at}
use denote.Memory.{raw_all}
use denote.Param.Send.{IsSend, IsSync, whole-keyless, param_sync, arg_sync, struct_send, struct_sync, recorded_send, recorded_sync, plain_send, sendable}
use denote.Struct.Declared.{shape}
use Rattle.std.proofs.Crossing.{crosses}
use Rattle.std.proofs.vec.Vec.TheSendSync as vec
use Rattle.std.proofs.alloc.Global.TheSendSync as heap
use Rattle.std.specs.contracts.alloc.Global as Heap
use Rattle.std.specs.contracts.impls.GlobalAllocator.TheImpl as allocator
use Rattle.arena_open.specs.contracts.state.ArenaState as ArenaState
use Rattle.atomic_table.proofs.shared.Seat.TheSendSync as seat
use Rattle.atomic_table.specs.contracts.shared.Seat as Seat
use Rattle.lane_table.specs.contracts.table.Call as Call
use Rattle.lane_table.specs.contracts.table.View as View
use Rattle.lane_table.specs.contracts.lanes.Kit as Kit
use Rattle.lane_table.specs.contracts.lanes.Lane as Lane
use Rattle.lane_table.specs.contracts.lanes.Staged as Staged
use Rattle.lane_table.specs.contracts.lanes.Stopped as Stopped
use Rattle.lane_table.specs.contracts.lanes.LaneEnd as LaneEnd
use Rattle.lane_sessions.proofs.Sending.{sectors_field_sync, session_field_send}
use Rattle.turn_lock.specs.contracts.pass.TurnPass as TurnPass
use Rattle.turn_lock.specs.contracts.turn.Turn as Turn
use Rattle.turn_lock.proofs.pass.TurnPass.TheSendSync as pass
use Rattle.turn_lock.proofs.turn.Turn.TheSendSync as turn
use Rattle.label_codec.proofs.label.Label.TheSendSync as label
use Rattle.label_set.proofs.placed.Placed.TheSendSync as placed
use Rattle.namespace_areas.proofs.area.Area.TheSendSync as area
use Rattle.namespace_areas.specs.contracts.area.Area as Area
use Rattle.std.specs.contracts.vec.Vec as Vec
use Rattle.std.specs.contracts.snapshot.Snapshot as Snapshot
use Rattle.namespace_areas.specs.contracts.changes.Change as Change
use Rattle.namespace_map.proofs.refused.OpRefused.TheSendSync as refused
use Rattle.namespace_ops.specs.contracts.journal.JournalEntry as JournalEntry
use Rattle.nfit_reader.proofs.table.Mapping.TheSendSync as mapping
use Rattle.interleave.specs.contracts.set.InterleaveSet as InterleaveSet
use Rattle.namespace_areas.specs.contracts.groups.LabelGroups as LabelGroups
use Rattle.namespace_areas.specs.contracts.regions.Regions as Regions
use Rattle.namespace_ops.specs.contracts.claims.Claims as Claims
use Rattle.namespace_ops.specs.contracts.counted.CountedNamespaces as CountedNamespaces
use Rattle.namespace_ops.specs.contracts.journal.Journal as Journal
use Rattle.namespace_ops.specs.contracts.label_store.LabelStore as LabelStore
use Rattle.namespace_ops.specs.contracts.registry.Registry as Registry
use Rattle.registry_service.specs.contracts.served.OrdersPart as OrdersPart
use Rattle.registry_service.specs.contracts.served.ServedRegistry as ServedRegistry
use Rattle.registry_service.specs.contracts.served.ServedRegistryParted.TheImpl as orders_parted
use Rattle.session_service.specs.contracts.namespaces.NamespaceArenas as NamespaceArenas
use Rattle.session_service.specs.contracts.runner.Runner as Runner
use Rattle.session_service.specs.contracts.service.Orders as Orders
use Rattle.session_service.specs.contracts.service.Service as Service
use Rattle.session_service.proofs.namespaces.NamespaceArenas.TheSendSync as place

set_send : IsSend InterleaveSet.the_row
set_send = search (mapping.the_send, sendable, crosses) depth 20

regions_send : IsSend Regions.the_row
regions_send = search (set_send, sendable, crosses) depth 20

groups_send : IsSend LabelGroups.the_row
groups_send = search (placed.the_send, sendable, crosses) depth 20

change_send : IsSend Change.the_row
change_send = search (label.the_send, sendable, crosses) depth 20

store_send : IsSend LabelStore.the_row
store_send = search (regions_send, groups_send, change_send, placed.the_send, area.the_send, sendable, crosses) depth 20

claims_send : IsSend Claims.the_row
claims_send = search (sendable, crosses) depth 20

counted_send : IsSend CountedNamespaces.the_row
counted_send = search (store_send, claims_send, sendable, crosses) depth 20

entry_send : IsSend JournalEntry.the_row
entry_send = search (refused.the_send, sendable, crosses) depth 20

journal_send : IsSend Journal.the_row
journal_send = search (entry_send, sendable, crosses) depth 20

opening_send : IsSend (Snapshot.the_row (Vec.the_row Area.the_row Heap.the_row allocator.ghosts))
opening_send = search crosses depth 20

-- (`search` doesn't find it: too many steps)
plain_registry_send : IsSend Registry.the_row
plain_registry_send = record {
  owned = λ d vs x. ((λ vss. (tt, (counted_send.owned x.0.namespaces vss.0, (journal_send.owned x.0.journal vss.1.0, (opening_send.owned x.0.opening vss.1.1.0, tt))))), tt);
  leaving = λ k d w. tt;
}

registry_send : IsSend ServedRegistry.the_row
registry_send = search (plain_registry_send, sendable, crosses) depth 20

orders_pass_send : IsSend (TurnPass.the_field ServedRegistry.the_row OrdersPart.the_row orders_parted.ghosts).row
orders_pass_send = pass.the_field_send ServedRegistry.the_row OrdersPart.the_row orders_parted.ghosts registry_send

orders_turn_sync : IsSync (Turn.the_field ServedRegistry.the_row OrdersPart.the_row orders_parted.ghosts).row
orders_turn_sync = turn.the_field_sync ServedRegistry.the_row OrdersPart.the_row orders_parted.ghosts registry_send

runner_field_send : IsSend (Runner.the_field).row
runner_field_send = struct_send (shape Runner.the_type) (
  session_field_send,
  (
    orders_pass_send,
    (
      search (sendable, crosses) depth 20,
      (search (sendable, crosses) depth 20, (plain_send _ _ _ _ _, (search (sendable, crosses) depth 20, tt))),
    ),
  ),
)

pub runner_send : IsSend Runner.the_row
runner_send = recorded_send (Runner.the_field).row _ _ (Runner.the_type).to_one runner_field_send

opened_sync : IsSync (Snapshot.the_row (Vec.the_row ArenaState.the_row Heap.the_row allocator.ghosts))
opened_sync = search crosses depth 20

-- ---- lanes: a `&` to a seat is not read

call_send : IsSend Call.the_row
call_send = search (sendable, crosses) depth 20

seat_sync : IsSync (Seat.the_row Call.the_row View.the_row)
seat_sync = record {
  shared = λ d b o κ q. whole-keyless (raw_all (Seat.the_row Call.the_row View.the_row).mir) (Seat.the_row Call.the_row View.the_row).own_val (seat.the_send Call.the_row View.the_row call_send).owned q d b o;
}

kit_field_sync : IsSync (Kit.the_field).row
kit_field_sync = struct_sync (shape Kit.the_type) (
  seat_sync,
  (
    search (sendable, crosses) depth 20,
    (search (sendable, crosses) depth 20, (search (sendable, crosses) depth 20, (search (sendable, crosses) depth 20, tt))),
  ),
)

lane_field_sync : IsSync (Lane.the_field).row
lane_field_sync = struct_sync (shape Lane.the_type) (kit_field_sync, (search (sendable, crosses) depth 20, tt))

staged_field_sync : IsSync (Staged.the_field).row
staged_field_sync = struct_sync (shape Staged.the_type) (kit_field_sync, (search (sendable, crosses) depth 20, tt))

stopped_field_sync : IsSync (Stopped.the_field).row
stopped_field_sync = struct_sync (shape Stopped.the_type) (kit_field_sync, tt)

end_sync : IsSync LaneEnd.the_row
end_sync = search (lane_field_sync, staged_field_sync, stopped_field_sync, sendable, crosses) depth 20

aside_sync : IsSync (Vec.the_row (Vec.the_row LaneEnd.the_row Heap.the_row allocator.ghosts) Heap.the_row allocator.ghosts)
aside_sync = search (end_sync, sendable, crosses) depth 20

service_field_sync : IsSync (Service.the_field).row
service_field_sync = struct_sync (shape Service.the_type) (
  heap.the_field_sync,
  (
    vec.the_sync NamespaceArenas.the_row Heap.the_row allocator.ghosts place.the_sync heap.the_sync,
    (
      search (opened_sync, sendable, crosses) depth 20,
      (
        sectors_field_sync,
        (search (aside_sync, sendable, crosses) depth 20, (struct_sync (shape Orders.the_type) (orders_turn_sync, tt), tt)),
      ),
    ),
  ),
)

pub service_sync : IsSync Service.the_row
service_sync = recorded_sync (Service.the_field).row _ _ (Service.the_type).to_one service_field_sync

-- a closure over four references
pub closure_sync : (δ : Ty) (k : Kept) (ν : Sym) (A B C D : RattleType) → IsSync A → IsSync B → IsSync C → IsSync D → IsSync (param 2 (arg δ k (TupleAt ν (A ∷ B ∷ C ∷ D ∷ []))))
closure_sync δ k ν A B C D a b c d =
    let T = type_at ν (A ∷ B ∷ C ∷ D ∷ []) in
    let fields = struct_sync (shape T) (a, (b, (c, (d, tt)))) in
    let whole : IsSync (TupleAt ν (A ∷ B ∷ C ∷ D ∷ [])) = recorded_sync _ T.D T.to T.to_one fields in
    param_sync 2 (arg δ k (TupleAt ν (A ∷ B ∷ C ∷ D ∷ []))) (arg_sync δ k (TupleAt ν (A ∷ B ∷ C ∷ D ∷ [])) whole)
