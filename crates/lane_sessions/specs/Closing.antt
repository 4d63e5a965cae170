-- The lanes and the passes of an arena when all are handed in.
use Rattle.std.specs.Prelude.{◌≡◌, ◌⊎◌, ℕ, zero, suc, ◌<◌, true, List, [], ◌∷◌, ◌++◌, length, All, Option, Some, None, slice_get, slice_index_or}
use mathlib.Core.Option.{some}
use lib.ListN.{get_elem?}
use Rattle.atomic_table.specs.Seated.{TableId}
use Rattle.lane_core.specs.declared.in_call.InCall.{InCall}
use Rattle.lane_table.specs.declared.arena.Arena.{Arena}
use Rattle.lane_table.specs.declared.lanes.LaneEnd.{LaneEnd}
use Rattle.lane_table.specs.declared.session_pass.Pass.{Pass}
use Rattle.lane_table.specs.declared.table.PassPart.{PassPart}
use Rattle.lane_table.specs.Closed.{AreInOrder}
use Rattle.lane_table.specs.Kits.{arena_id, held_in, kit_in, loose_in}
use Rattle.lane_calls.specs.declared.parts.ArenaPart.{ArenaPart}
use Rattle.lane_calls.specs.Lanes.{is_in_flight}
use Rattle.lane_calls.specs.Sessions.{Holds, InHand}

-- a lane at this place holds session q's pass, which isn't in hand
pub record InLane (q : ℕ) (o : Option Pass) (ends : List LaneEnd) (m : ArenaPart) : Type 0 where
  pub none : o ≡ None
  pub place : ℕ
  pub end : LaneEnd
  pub there : get_elem? ends place ≡ some end
  pub holds : Holds q (kit_in end) m

-- session q's pass is in hand, or on one of the lanes; and the session knows this
abbrev pub IsHandedIn : TableId → ℕ → Option Pass → List LaneEnd → ArenaPart → Type 0
IsHandedIn table q o ends m = InHand table q o m ⊎ InLane q o ends m

-- All lanes of an arena, and the passes of all its sessions: the one at q is session q's, which knows this of the arena.
pub record AreHandedIn (a : Arena) (ends : List LaneEnd) (passes : List (Option Pass)) (known : ℕ → ArenaPart) : Type 0 where
  pub order : AreInOrder a.shape.lanes ends
  pub table : All (λ e. (kit_in e).seat.table_id ≡ arena_id a) ends
  -- lane 0 made the passes
  pub made : (e : LaneEnd) → get_elem? ends 0 ≡ some e → (kit_in e).made ≡ length passes
  pub each : (q : ℕ) → q < length passes → IsHandedIn (arena_id a) q (slice_index_or passes q None) ends (known q)
  -- a lane has a write in flight only if it holds the pass of the write's session
  pub flights : (l : ℕ) (e : LaneEnd) → get_elem? ends l ≡ some e → is_in_flight (kit_in e) ≡ true → (q : ℕ) × (q < length passes) × Holds q (kit_in e) (known q)

-- ---- passes that an end carries along

abbrev pub carried_by : Option Pass → List PassPart
carried_by None = []
carried_by (Some p) = p.seat.me.0.loose

abbrev pub carried : List (Option Pass) → List PassPart
carried [] = []
carried (p ∷ passes) = carried_by p ++ carried passes

-- the same lane
pub record IsSameEnd (e e' : LaneEnd) : Type 0 where
  pub table : (kit_in e').seat.table_id ≡ (kit_in e).seat.table_id
  pub number : (kit_in e').number ≡ (kit_in e).number
  pub lane : (kit_in e').seat.me.0.lane ≡ (kit_in e).seat.me.0.lane
  pub held : held_in (kit_in e') ≡ held_in (kit_in e)

-- which carries these besides
pub record Carries (passes : List PassPart) (e e' : LaneEnd) : Type 0 where
  pub same : IsSameEnd e e'
  pub loose : loose_in (kit_in e') ≡ loose_in (kit_in e) ++ passes

-- the writes that n sessions know to be in flight
abbrev pub all_calls : ℕ → (ℕ → ArenaPart) → List InCall
all_calls zero known = []
all_calls (suc n) known = all_calls n known ++ (known n).mine.calls

-- each of these that is there is a pass of this arena
abbrev pub ArePassesOf : TableId → List (Option Pass) → Type 0
ArePassesOf table passes = (q : ℕ) (p : Pass) → slice_get passes q ≡ Some (Some p) → p.seat.table_id ≡ table

-- the same lanes, of which the first carries these besides
pub record Joins (passes : List PassPart) (ends ends' : List LaneEnd) : Type 0 where
  pub count : length ends' ≡ length ends
  pub first : (e e' : LaneEnd) → get_elem? ends 0 ≡ some e → get_elem? ends' 0 ≡ some e' → Carries passes e e'
  pub others : (l : ℕ) → 0 < l → get_elem? ends' l ≡ get_elem? ends l
