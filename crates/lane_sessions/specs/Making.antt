-- What making ensures of the pool and of the sessions.
use Rattle.std.specs.Prelude.{◌≡◌, ℕ, ◌+◌, ◌<◌, true, List, [], ◌∷◌, length, map, min, Option, Some, None, Vec, slice_get, slice_index_or}
use Rattle.atomic_table.specs.Seated.{TableId}
use Rattle.turn_lock.specs.declared.pass.TurnPass.{TurnPass}
use Rattle.turn_lock.specs.Passes.{callers_of, first_of, number_of, part_of}
use Rattle.arena_open.specs.declared.state.ArenaState.{ArenaState}
use Rattle.lane_core.specs.Arenas.{shape_in}
use Rattle.session_parts.specs.Parts.{part}
use Rattle.lane_table.specs.declared.arena.Arena.{Arena}
use Rattle.lane_table.specs.declared.lanes.Lane.{Lane}
use Rattle.lane_table.specs.declared.lanes.LaneEnd.{LaneEnd}
use Rattle.lane_table.specs.declared.session_pass.Pass.{Pass}
use Rattle.lane_table.specs.Begun.{IsMadeOf}
use Rattle.lane_table.specs.Kits.{arena_id, kit_in}
use Rattle.lane_table.specs.Law.{pass_now}
use Rattle.lane_pool.specs.declared.holders.Hand.TheVariants as hand
use Rattle.lane_pool.specs.declared.pool.PoolPart.{PoolPart}
use Rattle.lane_pool.specs.declared.sets.LaneSet.{LaneSet}
use Rattle.lane_pool.specs.declared.turns.LanePool.{LanePool}
use Rattle.lane_pool.specs.contracts.pool.PoolParted.TheImpl.{ghosts}
use Rattle.lane_pool.specs.Pools.{Now, fresh}
use Rattle.lane_pool.specs.Sets.{IsIdleEnd, lane_in, lane_of}
use Rattle.lane_calls.specs.declared.parts.ArenaPart.{ArenaPart}
use Rattle.lane_calls.specs.declared.session.Sectors.{Sectors}
use Rattle.lane_calls.specs.declared.session.Session.{Session}
use Rattle.lane_calls.specs.Sessions.{Know, Parts}
use Rattle.lane_sessions.specs.declared.arenas.Column.{Column}
use Rattle.lane_sessions.specs.declared.arenas.Laid.{Laid}
use Rattle.lane_sessions.specs.declared.arenas.Plan.{Plan}
use Rattle.lane_sessions.specs.declared.making.SessionLimits.{SessionLimits}
use Rattle.lane_sessions.specs.Rows.{Along, AreRows}
use Rattle.lane_sessions.specs.Sets.{which}

-- ---- the sets

-- the sets with which the pool began
abbrev pub first_sets : Sectors → List LaneSet
first_sets s = (first_of s.pool.turn).first

-- as many sets as there are workers, or as the arena with the fewest lanes has, if these are fewer
abbrev pub set_count : ℕ → List ArenaState → ℕ
set_count n [] = n
set_count n (state ∷ states) = set_count (min n (shape_in state).lanes) states

-- set i has number i
abbrev pub AreNumbered : List LaneSet → Type 0
AreNumbered sets = (i : ℕ) (s : LaneSet) → slice_get sets i ≡ Some s → s.number ≡ i

-- ---- the pool and the sessions

abbrev pub calls_in : List SessionLimits → List ℕ
calls_in limits = map (λ l. l.calls) limits

-- its callers are these sessions, and nobody did anything
pub record IsNewPool (limits : List SessionLimits) (pool : LanePool) : Type 0 where
  pub callers : callers_of pool.turn ≡ length limits
  pub unused : first_of pool.turn ≡ fresh (first_of pool.turn).first (calls_in limits)

-- of a session that did nothing: it has no set out, may take one for so many calls, and power is on
abbrev pub new_caller : List LaneSet → ℕ → PoolPart
new_caller sets calls = record { first = sets; placed = true; left = calls; hand = hand.Empty; handed = None; stop = None; told = None }

abbrev pub new_part : ArenaState → ArenaPart
new_part state = record { first = state; mine = part [] []; steps = 0 }

-- what a session that did nothing knows of each arena; `past` stands for those that there aren't
abbrev pub new_parts : ArenaState → List ArenaState → Parts
new_parts past states j = new_part (slice_index_or states j past)

abbrev pub or_zero : Option ℕ → ℕ
or_zero None = 0
or_zero (Some n) = n

-- session q, which did nothing
pub record IsNewSession (s : Sectors) (states : List ArenaState) (limits : SessionLimits) (q : ℕ) (session : Session) : Type 0 where
  pub number : session.number ≡ q
  pub left : session.caller.left ≡ limits.cut
  pub steps : session.caller.steps ≡ or_zero limits.cut
  pub call : session.caller.call ≡ 0
  pub kept : session.kept ≡ None
  pub pool : part_of session.caller.pool ≡ Some (new_caller (first_sets s) limits.calls)
  pub know : (past : ArenaState) → Know s q (new_parts past states) session

-- each session has its limits
pub record AreNewSessions (s : Sectors) (states : List ArenaState) (limits : List SessionLimits) (sessions : List Session) : Type 0 where
  pub count : length sessions ≡ length limits
  pub each : (q : ℕ) (l : SessionLimits) (session : Session) → slice_get limits q ≡ Some l → slice_get sessions q ≡ Some session → IsNewSession s states l q session

-- ---- while arenas are made

-- the end is this idle lane, with room for so many calls
abbrev pub IsEndOf : ℕ → Lane → Option LaneEnd → Type 0
IsEndOf calls l e = (lane_in e ≡ Some (lane_of l.kit)) × IsIdleEnd calls e

-- the end for set i: lane i of the arena
abbrev pub IsSetEnd : Plan → ℕ → Arena → Option LaneEnd → Type 0
IsSetEnd p i a e = (lane_in e ≡ Some (which p.sessions a i)) × IsIdleEnd p.calls e

-- the lanes that no set has
pub record AreAside {Z : Type 0} (p : Plan) (a : Arena) (ends : Vec LaneEnd Z) : Type 0 where
  pub rest : p.sets + length ends.items ≡ a.shape.lanes
  pub others : (k : ℕ) (e : LaneEnd) → slice_get ends.items k ≡ Some e → IsIdleEnd 0 (Some e) × (lane_of (kit_in e) ≡ which p.sessions a (p.sets + k))

-- the pass of session q, which did nothing
pub record IsNewPass (table : TableId) (q : ℕ) (o : Option Pass) : Type 0 where
  pub pass : Pass
  pub is : o ≡ Some pass
  pub table_is : pass.seat.table_id ≡ table
  pub session : pass.session ≡ q
  pub loose : pass.seat.me.0.loose ≡ pass_now q 0 []

abbrev pub IsPassOf : ℕ → Arena → Option Pass → Type 0
IsPassOf q a o = IsNewPass (arena_id a) q o

pub record IsColumn (p : Plan) (state : ArenaState) (c : Column) : Type 0 where
  pub made : IsMadeOf state c.arena
  pub sets : length c.ends.items ≡ p.sets
  pub ends : (i : ℕ) (e : Option LaneEnd) → i < p.sets → IsSetEnd p i c.arena (slice_index_or c.ends.items i e)
  pub aside : AreAside p c.arena c.aside
  pub sessions : length c.passes.items ≡ p.sessions
  pub passes : (q : ℕ) (o : Option Pass) → q < p.sessions → IsPassOf q c.arena (slice_index_or c.passes.items q o)

pub record AreLaid (p : Plan) (states : List ArenaState) (x : Laid) : Type 0 where
  pub made : Along IsMadeOf states x.arenas.items
  pub sets : length x.ends.items ≡ p.sets
  pub ends : AreRows (IsSetEnd p) x.arenas.items x.ends.items
  pub aside : Along (AreAside p) x.arenas.items x.aside.items
  pub sessions : length x.passes.items ≡ p.sessions
  pub passes : AreRows IsPassOf x.arenas.items x.passes.items

-- session q has the limits, the pass of the pool and the row of passes at its place, and keeps no set
pub record IsSeatedAt {Z : Type 0} (limits : SessionLimits) (pool : TurnPass Now PoolPart ghosts) (row : Vec (Option Pass) Z) (session : Session) : Type 0 where
  pub number : session.number ≡ number_of pool
  pub passes : session.passes.items ≡ row.items
  pub pool_is : session.caller.pool ≡ pool
  pub left : (session.caller.left ≡ limits.cut) × (session.caller.steps ≡ or_zero limits.cut)
  pub call : session.caller.call ≡ 0
  pub kept : session.kept ≡ None

abbrev pub AreSeated : {Z : Type 0} → List SessionLimits → List (TurnPass Now PoolPart ghosts) → List (Vec (Option Pass) Z) → List Session → Type 0
AreSeated {Z} limits pool rows sessions = (q : ℕ) (l : SessionLimits) (p : TurnPass Now PoolPart ghosts) (row : Vec (Option Pass) Z) (s : Session) → q < length sessions
    → IsSeatedAt (slice_index_or limits q l) (slice_index_or pool q p) (slice_index_or rows q row) (slice_index_or sessions q s)
