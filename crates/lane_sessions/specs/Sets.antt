-- The arenas of a row and the sets of their lanes: place j of set i is lane i of arena j.
use Rattle.std.specs.Prelude.{◌≡◌, ℕ, zero, suc, ◌+◌, List, [], length, Some, slice_get, slice_index_or}
use Rattle.arena_open.specs.declared.state.ArenaState.{ArenaState}
use Rattle.lane_table.specs.declared.arena.Arena.{Arena}
use Rattle.lane_table.specs.declared.lanes.LaneEnd.{LaneEnd}
use Rattle.lane_table.specs.Begun.{IsMadeOf}
use Rattle.lane_table.specs.Kits.{arena_id, kit_in}
use Rattle.lane_pool.specs.declared.sets.LaneSet.{LaneSet}
use Rattle.lane_pool.specs.Sets.{IsIdleEnd, WhichLane, lane_in, lane_of}
use Rattle.lane_calls.specs.Sessions.{end_at}

-- the arenas of these states, in order
pub record AreMadeOf (states : List ArenaState) (arenas : List Arena) : Type 0 where
  pub count : length arenas ≡ length states
  pub each : (j : ℕ) (state : ArenaState) (a : Arena) → slice_get states j ≡ Some state → slice_get arenas j ≡ Some a → IsMadeOf state a

-- how many passes lane i of an arena has made, if each of so many sessions has one: lane 0 makes them all
abbrev pub made_by : ℕ → ℕ → ℕ
made_by sessions zero = sessions
made_by sessions (suc i) = 0

-- lane i of an arena, in which each of so many sessions has a pass
abbrev pub which : ℕ → Arena → ℕ → WhichLane
which sessions a i = record { table = arena_id a; shape = a.shape; number = i; made = made_by sessions i }

-- The lanes of each arena: the first ones stand in sets, lane i in set i, and the others, idle, aside.
pub record AreSets (sessions : ℕ) (arenas : List Arena) (sets : List LaneSet) (aside : List (List LaneEnd)) : Type 0 where
  pub ends : (i : ℕ) (s : LaneSet) → slice_get sets i ≡ Some s → length s.ends.items ≡ length arenas
  pub lanes : (i j : ℕ) (s : LaneSet) (a : Arena) → slice_get sets i ≡ Some s → slice_get arenas j ≡ Some a → lane_in (end_at s j) ≡ Some (which sessions a i)
  pub count : length aside ≡ length arenas
  pub rest : (j : ℕ) (a : Arena) → slice_get arenas j ≡ Some a → length sets + length (slice_index_or aside j []) ≡ a.shape.lanes
  pub others : (j k : ℕ) (a : Arena) (e : LaneEnd) → slice_get arenas j ≡ Some a → slice_get (slice_index_or aside j []) k ≡ Some e
      → IsIdleEnd 0 (Some e) × (lane_of (kit_in e) ≡ which sessions a (length sets + k))
