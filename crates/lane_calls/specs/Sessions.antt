-- What a session knows of each arena.
use Rattle.std.specs.Prelude.{◌≡◌, ◌≢◌, ◌⊎◌, ℕ, ◌+◌, ◌<◌, ◌≤◌, Bool, true, false, List, [], ◌∷◌, eqb, cond, length, map, Option, Some, None, slice_get, slice_index_or, slice_set}
use Rattle.atomic_table.specs.Seated.{TableId}
use Rattle.turn_lock.specs.Passes.{IsOutside, lock_id, number_of, part_of}
use Rattle.lane_core.specs.declared.history.Act.TheVariants as act
use Rattle.lane_core.specs.declared.history.Entry.{Entry}
use Rattle.lane_core.specs.declared.in_call.InCall.{InCall}
use Rattle.lane_core.specs.declared.shape.Shape.{Shape}
use Rattle.lane_core.specs.Arenas.{shape_in}
use Rattle.session_parts.specs.Parts.{part, stand}
use Rattle.lane_table.specs.declared.arena.Arena.{Arena}
use Rattle.lane_table.specs.declared.lanes.Kit.{Kit}
use Rattle.lane_table.specs.declared.lanes.LaneEnd.{LaneEnd}
use Rattle.lane_table.specs.declared.session_pass.Pass.{Pass}
use Rattle.lane_table.specs.declared.table.PassPart.{PassPart}
use Rattle.lane_table.specs.Kits.{IsOf, arena_id, held_in, kit_in}
use Rattle.lane_table.specs.Law.{pass_now}
use Rattle.lane_pool.specs.declared.holders.Hand.TheVariants as hand
use Rattle.lane_pool.specs.declared.pool.PoolPart.{PoolPart}
use Rattle.lane_pool.specs.declared.sets.LaneSet.{LaneSet}
use Rattle.lane_pool.specs.Parts.{HasNoneOut, WasOn}
use Rattle.lane_pool.specs.Sets.{IsAtPlace, IsIdleEnd, IsReady, WhichLane, lane_of, lanes_in}
use Rattle.lane_calls.specs.declared.parts.ArenaPart.{ArenaPart}
use Rattle.lane_calls.specs.declared.session.Kept.{Kept}
use Rattle.lane_calls.specs.declared.session.Sectors.{Sectors}
use Rattle.lane_calls.specs.declared.session.Session.{Session}
use Rattle.lane_calls.specs.Lanes.{is_in_flight, steps_in, words_in}

-- ---- places

-- what a session knows of each arena
abbrev pub Parts : Type 0
Parts = ℕ → ArenaPart

-- of one arena it knows something else
abbrev pub with_part : Parts → ℕ → ArenaPart → Parts
with_part parts i m j = cond (eqb i j) m (parts j)

abbrev pub shape_of : ArenaPart → Shape
shape_of m = shape_in m.first

-- the lane at a place of a set, if it is there
abbrev pub end_at : LaneSet → ℕ → Option LaneEnd
end_at s j = slice_index_or s.ends.items j None

abbrev pub handed_at : Option LaneSet → ℕ → Option LaneEnd
handed_at None j = None
handed_at (Some s) j = end_at s j

-- the session's pass of an arena, if it has it in hand
abbrev pub pass_at : Session → ℕ → Option Pass
pass_at session j = slice_index_or session.passes.items j None

-- ---- one arena

-- the write that a lane has in flight
abbrev pub in_call : Kit → InCall
in_call k = record { lane = k.number; tag = k.seat.me.0.lane.tag; sector = k.seat.me.0.lane.sector; act = Some (act.Write (words_in k)); steps = 0; entered = false }

abbrev pub calls_by : Bool → InCall → List InCall
calls_by true c = c ∷ []
calls_by false c = []

abbrev pub calls_of : Kit → List InCall
calls_of k = calls_by (is_in_flight k) (in_call k)

-- the lane holds the pass of session q, which knows this
pub record Holds (q : ℕ) (k : Kit) (m : ArenaPart) : Type 0 where
  pub pass : PassPart
  pub held : held_in k ≡ pass ∷ []
  pub session : pass.session ≡ q
  pub steps : steps_in k ≡ m.steps
  pub own : is_in_flight k ≡ true → k.seat.me.0.lane.tag.session ≡ q
  pub mine : m.mine ≡ part (map stand pass.entries) (calls_of k)

-- session q has its pass of this arena in hand, and it knows this
pub record InHand (table : TableId) (q : ℕ) (o : Option Pass) (m : ArenaPart) : Type 0 where
  pub pass : Pass
  pub is : o ≡ Some pass
  pub table_is : pass.seat.table_id ≡ table
  pub session : pass.session ≡ q
  pub entries : List Entry
  pub loose : pass.seat.me.0.loose ≡ pass_now q m.steps entries
  pub mine : m.mine ≡ part (map stand entries) []

-- the lane of its last call there, which was cut, has its pass
pub record InEnd (table : TableId) (q : ℕ) (o : Option Pass) (e : Option LaneEnd) (m : ArenaPart) : Type 0 where
  pub none : o ≡ None
  pub end : LaneEnd
  pub is : e ≡ Some end
  pub table_is : (kit_in end).seat.table_id ≡ table
  pub holds : Holds q (kit_in end) m

-- in hand, and if a set was handed to `stop` its lane of this arena is idle; or in that set
abbrev pub IsKnown : TableId → ℕ → Option Pass → Option LaneSet → ℕ → ArenaPart → Type 0
IsKnown table q o handed j m = (InHand table q o m × ((s : LaneSet) → handed ≡ Some s → IsIdleEnd 0 (end_at s j))) ⊎ InEnd table q o (handed_at handed j) m

-- ---- all arenas

-- each place of each set is a lane of the arena there
abbrev pub AreLaid : List Arena → List LaneSet → Type 0
AreLaid arenas sets = (i : ℕ) (s : LaneSet) → slice_get sets i ≡ Some s
    → (length s.ends.items ≡ length arenas) × ((j : ℕ) (a : Arena) → slice_get arenas j ≡ Some a → (w : WhichLane) × (slice_index_or (lanes_in s) j None ≡ Some w) × (w.table ≡ arena_id a) × (w.shape ≡ a.shape))

-- session q is this pool's caller q, whose part of the pool is this
pub record IsSeated (s : Sectors) (q : ℕ) (pool : PoolPart) (session : Session) : Type 0 where
  pub number : session.number ≡ q
  pub count : length session.passes.items ≡ length s.arenas.items
  pub outside : IsOutside (lock_id s.pool.turn) session.caller.pool
  pub turn : number_of session.caller.pool ≡ q
  pub pool_is : part_of session.caller.pool ≡ Some pool
  pub placed : pool.placed ≡ true
  pub laid : AreLaid s.arenas.items pool.first

-- ---- the set that a session has out

-- how many calls it made with the set that it has out
abbrev pub made_with : Option Kept → ℕ
made_with None = 0
made_with (Some kept) = kept.made

-- Of the calls that it may still make, it made so many with the set that it has out: that had room for all of them, and has room for
-- the others. Each lane has room for `spare` calls.
pub record HasRoom (room made spare : ℕ) (m : PoolPart) : Type 0 where
  pub enough : m.left ≤ room
  pub few : made ≤ m.left
  pub counted : spare + made ≡ room

-- The session has this set out, and made so many calls at most with it: its lanes are idle, and have room for all others that it may
-- make. It was told of no `PowerOff`, and didn't switch power off.
pub record IsHeld (most : ℕ) (kept : Kept) (m : PoolPart) : Type 0 where
  pub at : ℕ
  pub room : ℕ
  pub out : m.hand ≡ hand.Out at room
  pub place : IsAtPlace m.first at kept.set
  pub spare : ℕ
  pub ready : IsReady spare kept.set
  pub has_room : HasRoom room kept.made spare m
  pub few : kept.made ≤ most
  pub on : WasOn m

-- it has this set out, or none
abbrev pub HasOut : ℕ → Option Kept → PoolPart → Type 0
HasOut most None m = HasNoneOut m
HasOut most (Some kept) m = IsHeld most kept m

-- ---- all that it knows

-- in no call, with this set out: what session q knows of each arena
pub record KnowWith (s : Sectors) (q : ℕ) (parts : Parts) (most : ℕ) (kept : Option Kept) (session : Session) : Type 0 where
  pub pool : PoolPart
  pub seated : IsSeated s q pool session
  pub out : HasOut most kept pool
  pub handed : (x : LaneSet) → pool.handed ≡ Some x → (at : ℕ) × (pool.hand ≡ hand.Stopped at) × IsAtPlace pool.first at x
  pub each : (j : ℕ) (a : Arena) → slice_get s.arenas.items j ≡ Some a → (a.shape ≡ shape_of (parts j)) × IsKnown (arena_id a) q (pass_at session j) pool.handed j (parts j)

-- between two calls: the set that it has out is the one that it kept, if it kept one, for less than 64 calls so far
abbrev pub Know : Sectors → ℕ → Parts → Session → Type 0
Know s q parts session = KnowWith s q parts 63 session.kept session

-- In a call at a place: the session has a set out, whose lane there has left it and holds the session's pass. This call is counted in
-- `kept.made`.
pub record IsOnLane (s : Sectors) (q : ℕ) (parts : Parts) (place : ℕ) (kept : Kept) (k : Kit) (session : Session) : Type 0 where
  pub pool : PoolPart
  pub seated : IsSeated s q pool session
  pub at : ℕ
  pub room : ℕ
  pub out : pool.hand ≡ hand.Out at room
  pub spare : ℕ
  pub has_room : HasRoom room kept.made spare pool
  pub first : LaneSet
  pub first_is : slice_get pool.first at ≡ Some first
  pub number : kept.set.number ≡ first.number
  pub lanes : slice_set (lanes_in kept.set) place (Some (lane_of k)) ≡ lanes_in first
  pub others : (j : ℕ) → j ≢ place → j < length kept.set.ends.items → IsIdleEnd spare (end_at kept.set j)
  pub few : kept.made ≤ 64
  pub none : session.kept ≡ None
  pub handed : pool.handed ≡ None
  pub arena : Arena
  pub arena_is : slice_get s.arenas.items place ≡ Some arena
  pub of : IsOf arena k
  pub shape_is : arena.shape ≡ shape_of (parts place)
  pub holds : Holds q k (parts place)
  pub here : pass_at session place ≡ None
  pub each : (j : ℕ) (a : Arena) → j ≢ place → slice_get s.arenas.items j ≡ Some a → (a.shape ≡ shape_of (parts j)) × InHand (arena_id a) q (pass_at session j) (parts j)
