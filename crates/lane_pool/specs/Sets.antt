-- A set of lanes, and what the pool asks of one.
use Rattle.std.specs.Prelude.{◌≡◌, ℕ, ◌≤◌, List, [], map, All, Option, Some, None, slice_get}
use Rattle.atomic_table.specs.Seated.{TableId}
use Rattle.lane_core.specs.declared.shape.Shape.{Shape}
use Rattle.lane_table.specs.declared.lanes.Kit.{Kit}
use Rattle.lane_table.specs.declared.lanes.LaneEnd.{LaneEnd}
use Rattle.lane_table.specs.declared.lanes.LaneEnd.TheVariants.{Idle, Staged, Stopped}
use Rattle.lane_table.specs.Kits.{held_in, kit_in, spare_in}
use Rattle.lane_pool.specs.declared.sets.LaneSet.{LaneSet}

-- which lane it is: that of this number in the arena of this table, whose shape it knows; its seat made so many passes
pub record WhichLane : Type 0 where
  pub table : TableId
  pub shape : Shape
  pub number : ℕ
  pub made : ℕ

abbrev pub lane_of : Kit → WhichLane
lane_of k = record { table = k.seat.table_id; shape = k.seat.me.0.shape; number = k.number; made = k.made }

abbrev pub lane_in : Option LaneEnd → Option WhichLane
lane_in None = None
lane_in (Some e) = Some (lane_of (kit_in e))

-- the lane at each place of a set
abbrev pub lanes_in : LaneSet → List (Option WhichLane)
lanes_in s = map lane_in s.ends.items

-- an idle lane with room for so many calls, which holds no session's pass
abbrev pub IsIdleEnd : ℕ → Option LaneEnd → Type 0
IsIdleEnd n None = ⊥
IsIdleEnd n (Some (Idle l)) = (n ≤ spare_in l.kit) × (held_in l.kit ≡ [])
IsIdleEnd n (Some (Staged s)) = ⊥
IsIdleEnd n (Some (Stopped s)) = ⊥

-- every lane of the set is there and idle, has room for so many calls, and holds no pass
abbrev pub IsReady : ℕ → LaneSet → Type 0
IsReady n s = All (IsIdleEnd n) s.ends.items

-- the same set at another time: its number, and the same lane at each place
abbrev pub IsSameSet : LaneSet → LaneSet → Type 0
IsSameSet s s' = (s'.number ≡ s.number) × (lanes_in s' ≡ lanes_in s)

-- the set that began at a place
abbrev pub IsAtPlace : List LaneSet → ℕ → LaneSet → Type 0
IsAtPlace first i s = (s0 : LaneSet) × (slice_get first i ≡ Some s0) × IsSameSet s0 s
