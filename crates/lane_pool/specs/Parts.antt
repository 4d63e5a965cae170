-- What a caller's turn does to its part of the pool.
use Rattle.std.specs.Prelude.{◌≡◌, ◌⊎◌, ℕ, ◌-◌, ◌<◌, ◌≤◌, true, false, cond, List, length, Option, Some, None, IsSome, is_some, All, Any, slice_get, slice_index_or}
use Rattle.atomic_table.specs.Seated.{TableId}
use Rattle.turn_lock.specs.declared.parted.Parted.{Ghosts}
use Rattle.turn_lock.specs.declared.pass.TurnPass.{TurnPass}
use Rattle.turn_lock.specs.Passes.{number_of, part_of, IsOutside}
use Rattle.lane_pool.specs.declared.holders.Hand.TheVariants as hand
use Rattle.lane_pool.specs.declared.holders.Stop.{Stop}
use Rattle.lane_pool.specs.declared.pool.PoolPart.{PoolPart}
use Rattle.lane_pool.specs.declared.sets.LaneSet.{LaneSet}
use Rattle.lane_pool.specs.declared.sets.PowerOff.{PowerOff}
use Rattle.lane_pool.specs.Pools.{Now}
use Rattle.lane_pool.specs.Sets.{IsAtPlace, IsReady}

-- ---- a caller's part

-- it may take a set
pub record MayTake (m : PoolPart) : Type 0 where
  pub placed : m.placed ≡ true
  pub free : m.hand ≡ hand.Empty

-- it neither switched power off nor was told that it is off
abbrev pub WasOn : PoolPart → Type 0
WasOn m = (m.told ≡ None) × (m.stop ≡ None)

-- it took this one: its lanes are idle, and have room for all calls that it may still make; and power was on
pub record Takes (s : LaneSet) (m m' : PoolPart) : Type 0 where
  pub at : ℕ
  pub room : ℕ
  pub becomes : m' ≡ record m { hand = hand.Out at room; handed = None }
  pub place : IsAtPlace m.first at s
  pub ready : IsReady room s
  pub enough : m.left ≤ room
  pub on : WasOn m

-- it was told that power is off
abbrev pub told_of : PowerOff → PoolPart → PoolPart
told_of p m = record m { told = Some p }

-- It may give this set back after so many calls, no more than it could make: the one that it has out, with idle lanes that have room
-- for all calls but these.
pub record MayGive (made : ℕ) (s : LaneSet) (m : PoolPart) : Type 0 where
  pub placed : m.placed ≡ true
  pub at : ℕ
  pub room : ℕ
  pub out : m.hand ≡ hand.Out at room
  pub few : made ≤ m.left
  pub place : IsAtPlace m.first at s
  pub ready : IsReady (room - made) s

abbrev pub given : ℕ → PoolPart → PoolPart
given made m = record m { left = m.left - made; hand = hand.Empty; handed = None }

-- it has no set out
abbrev pub HasNoneOut : PoolPart → Type 0
HasNoneOut m = (at room : ℕ) → m.hand ≡ hand.Out at room → ⊥

-- the set that it has out, whatever its lanes are doing; or it has none out, and hands none in
abbrev pub IsOut : Option LaneSet → PoolPart → Type 0
IsOut None m = HasNoneOut m
IsOut (Some s) m = (at : ℕ) × (room : ℕ) × (m.hand ≡ hand.Out at room) × IsAtPlace m.first at s

pub record MayStop (given_in : Option LaneSet) (m : PoolPart) : Type 0 where
  pub placed : m.placed ≡ true
  pub is_out : IsOut given_in m

-- the `PowerOff` that stays: the first one
abbrev pub or_first : Option PowerOff → PowerOff → Option PowerOff
or_first (Some first) off = Some first
or_first None off = Some off

-- its first call of `stop` stays
abbrev pub stop_with : PowerOff → Option PowerOff → Option Stop → Option Stop
stop_with p told (Some s) = Some s
stop_with p told None = Some (record { off = p; told = is_some told })

-- with what it switched power off: a caller that had been told that it is off didn't switch it off
abbrev pub switched_by : Option Stop → Option PowerOff
switched_by None = None
switched_by (Some s) = cond s.told None (Some s.off)

-- it handed this set in, which it had out at that place; or none, and has to do with the same set as before
abbrev pub Hands : Option LaneSet → PoolPart → PoolPart → Type 0
Hands None m m' = (m'.hand ≡ m.hand) × (m'.handed ≡ m.handed)
Hands (Some s) m m' = (at : ℕ) × (room : ℕ) × (m.hand ≡ hand.Out at room) × (m'.hand ≡ hand.Stopped at) × (m'.handed ≡ Some s)

-- it stopped the power, handed this set in, and was told the first `PowerOff`
pub record Stops (given_in : Option LaneSet) (p first : PowerOff) (m m' : PoolPart) : Type 0 where
  pub first_same : m'.first ≡ m.first
  pub placed : m'.placed ≡ m.placed
  pub left : m'.left ≡ m.left
  pub hands : Hands given_in m m'
  pub stop : m'.stop ≡ stop_with p m.told m.stop
  pub told : m'.told ≡ Some first

-- it asked whether power is off
abbrev pub Asks : Option PowerOff → PoolPart → PoolPart → Type 0
Asks None m m' = (m' ≡ m) × WasOn m
Asks (Some p) m m' = m' ≡ told_of p m

-- it asked, and nothing but what it was told changed
abbrev pub IsAsked : PoolPart → PoolPart → Type 0
IsAsked m m' = m' ≡ record m { told = m'.told }

-- ---- passes

module _ {g : Ghosts Now PoolPart} where
  abbrev pub HasPart : (PoolPart → Type 0) → TurnPass Now PoolPart g → Type 0
  HasPart P p = (m : PoolPart) × (part_of p ≡ Some m) × P m

  abbrev pub PartGoes : (PoolPart → PoolPart → Type 0) → TurnPass Now PoolPart g → TurnPass Now PoolPart g → Type 0
  PartGoes P p p' = (m : PoolPart) → part_of p ≡ Some m → (m' : PoolPart) × (part_of p' ≡ Some m') × P m m'

  -- ---- the power, for a caller that has no set out

  -- it may ask, and may switch power off: it is outside, the pool has a place for its caller, and it has no set out
  abbrev pub CanAsk : TableId → TurnPass Now PoolPart g → Type 0
  CanAsk lock p = IsOutside lock p × HasPart (λ m. (m.placed ≡ true) × HasNoneOut m) p

  -- it was told that power is off
  abbrev pub IsTold : TurnPass Now PoolPart g → Type 0
  IsTold p = HasPart (λ m. IsSome m.told) p

  -- its caller switched power off, or not, as before; and all else is as before but for what it was told
  abbrev pub KeepsStopped : TurnPass Now PoolPart g → TurnPass Now PoolPart g → Type 0
  KeepsStopped p p' = PartGoes IsAsked p p'

  -- its caller neither switched power off nor was told that it is off
  abbrev pub IsOn : TurnPass Now PoolPart g → Type 0
  IsOn p = HasPart WasOn p

  -- its caller switched power off, and nobody had told it that it is off
  abbrev pub HasStopped : TurnPass Now PoolPart g → Type 0
  HasStopped p = HasPart (λ m. (off : PowerOff) × (m.stop ≡ Some (record { off = off; told = false }))) p

  -- ---- the end

  -- no caller has a set out
  abbrev pub NoneOut : List (TurnPass Now PoolPart g) → Type 0
  NoneOut ps = All (HasPart HasNoneOut) ps

  -- what the pool leaves: each set at its place; it is ready, or as a pass knows it that was handed to `stop`
  pub record IsClosed (first : List LaneSet) (ps : List (TurnPass Now PoolPart g)) (sets : List LaneSet) (off : Option PowerOff) : Type 0 where
    pub count : length sets ≡ length first
    pub places : (i : ℕ) (s : LaneSet) → slice_get sets i ≡ Some s → IsAtPlace first i s
    pub idle : (i : ℕ) (s : LaneSet) → slice_get sets i ≡ Some s → IsReady 0 s ⊎ Any (HasPart (λ m. (m.hand ≡ hand.Stopped i) × (m.handed ≡ Some s))) ps
    pub handed : All (HasPart (λ m. (i : ℕ) → m.hand ≡ hand.Stopped i → m.handed ≡ slice_get sets i)) ps
    -- no two callers handed one set in
    pub one : (a b : ℕ) (p p' : TurnPass Now PoolPart g) → a < length ps → b < length ps → (i : ℕ) → HasPart (λ m. m.hand ≡ hand.Stopped i) (slice_index_or ps a p) → HasPart (λ m. m.hand ≡ hand.Stopped i) (slice_index_or ps b p')
        → number_of (slice_index_or ps a p) ≡ number_of (slice_index_or ps b p')
    -- power is off only if some pass says that its caller stopped it and hadn't been told so
    pub stopped : (p : PowerOff) → off ≡ Some p → Any (HasPart (λ m. m.stop ≡ Some (record { off = p; told = false }))) ps
    -- a caller was told no other `PowerOff` than this
    pub told : All (HasPart (λ m. (p : PowerOff) → m.told ≡ Some p → off ≡ Some p)) ps
