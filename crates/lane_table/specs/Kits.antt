-- What contracts say of lanes and of their arena.
use Rattle.std.specs.Prelude.{◌≡◌, ℕ, List, [], ◌∷◌, ◌++◌}
use Rattle.atomic_table.specs.Seated.{TableId}
use Rattle.lane_core.specs.declared.history.Entry.{Entry}
use Rattle.lane_core.specs.declared.shape.Shape.{Shape}
use Rattle.lane_table.specs.declared.arena.Arena.{Arena}
use Rattle.lane_table.specs.declared.lanes.Kit.{Kit}
use Rattle.lane_table.specs.declared.lanes.LaneEnd.{LaneEnd}
use Rattle.lane_table.specs.declared.lanes.LaneEnd.TheVariants.{Idle, Staged, Stopped}
use Rattle.lane_table.specs.declared.table.Owned.{Owned}
use Rattle.lane_table.specs.declared.table.PassPart.{PassPart}

abbrev pub kit_in : LaneEnd → Kit
kit_in (Idle l) = l.kit
kit_in (Staged s) = s.kit
kit_in (Stopped s) = s.kit

-- ---- an arena

-- which arena it is
abbrev pub arena_id : Arena → TableId
arena_id a = a.table.shared.table_id

-- ---- a lane

-- the lane is one of this table, and knows its shape
abbrev pub IsAt : TableId → Shape → Kit → Type 0
IsAt table x k = (k.seat.table_id ≡ table) × (k.seat.me.0.shape ≡ x)

abbrev pub IsOf : Arena → Kit → Type 0
IsOf a k = IsAt (arena_id a) a.shape k

-- the same lane, at another time
abbrev pub IsSame : Kit → Kit → Type 0
IsSame k k' = (k'.seat.table_id ≡ k.seat.table_id) × (k'.number ≡ k.number) × (k'.seat.me.0.shape ≡ k.seat.me.0.shape) × (k'.made ≡ k.made)

-- what the lane's seat knows of it
abbrev pub owned_in : Kit → Owned
owned_in k = record { number = k.number; lane = k.seat.me.0.lane; shape = k.seat.me.0.shape; held = k.seat.me.0.held; steps = k.seat.me.0.count.steps }

-- the pass that it holds, if there is one, and those that its seat carries besides
abbrev pub held_in : Kit → List PassPart
held_in k = k.seat.me.0.held

abbrev pub loose_in : Kit → List PassPart
loose_in k = k.seat.me.0.loose

abbrev pub all_loose : List LaneEnd → List PassPart
all_loose [] = []
all_loose (e ∷ es) = loose_in (kit_in e) ++ all_loose es

-- its entries in the history, oldest first; the log has them without words
abbrev pub log_in : Kit → List Entry
log_in k = k.seat.me.0.lane.log

-- how many more calls the lane has room for
abbrev pub spare_in : Kit → ℕ
spare_in k = k.log.spare
