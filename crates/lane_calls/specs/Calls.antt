-- What a call of a session on the sectors of an arena does to what the session knows.
use Rattle.std.specs.Prelude.{◌≡◌, ◌≢◌, ◌⊎◌, ℕ, ◌+◌, ◌^◌, ◌<◌, ◌≤◌, false, List, [], ◌∷◌, ◌++◌, length, Option, Some, None}
use Rattle.turn_lock.specs.Passes.{IsSamePass, PartBecomes, out_of, part_of}
use Rattle.nvd_words.specs.declared.tag.Tag.{Tag}
use Rattle.lane_core.specs.declared.history.Act.TheVariants as act
use Rattle.lane_core.specs.declared.in_call.InCall.{InCall}
use Rattle.lane_core.specs.declared.shape.Shape.{Shape}
use Rattle.session_parts.specs.declared.parts.CorePart.{CorePart}
use Rattle.session_parts.specs.declared.parts.Stand.{Stand}
use Rattle.session_parts.specs.Parts.{MayBegin, part, stand_at}
use Rattle.lane_table.specs.declared.lanes.Kit.{Kit}
use Rattle.lane_table.specs.Fuse.{of_left}
use Rattle.lane_table.specs.Kits.{spare_in}
use Rattle.lane_table.specs.Stages.{stage_steps}
use Rattle.lane_pool.specs.declared.holders.Hand.TheVariants as hand
use Rattle.lane_pool.specs.declared.pool.PoolPart.{PoolPart}
use Rattle.lane_pool.specs.declared.sets.PowerOff.{PowerOff}
use Rattle.lane_pool.specs.declared.sets.Who.TheVariants as who
use Rattle.lane_pool.specs.Parts.{HasPart, PartGoes, WasOn, switched_by, told_of}
use Rattle.lane_calls.specs.declared.parts.ArenaPart.{ArenaPart}
use Rattle.lane_calls.specs.declared.session.Kept.{Kept}
use Rattle.lane_calls.specs.declared.session.Sectors.{Sectors}
use Rattle.lane_calls.specs.declared.session.Session.{Session}
use Rattle.lane_calls.specs.Lanes.{Fewer}
use Rattle.lane_calls.specs.Sessions.{IsOnLane, Know, KnowWith, Parts, made_with, shape_of, with_part}

abbrev pub tag_by : ℕ → ℕ → Tag
tag_by q call = record { session = q; call = call }

-- ---- before a call

-- the session is in no call of this arena, and may begin one under this number on this sector, with words or room for
-- words of a sector
pub record MayRead (call sector room : ℕ) (m : ArenaPart) : Type 0 where
  pub may : MayBegin call m.mine
  pub sector_in : sector < (shape_of m).sectors
  pub whole : room ≡ (shape_of m).width

pub record MayWrite (call sector : ℕ) (words : List ℕ) (m : ArenaPart) : Type 0 where
  pub may : MayBegin call m.mine
  pub sector_in : sector < (shape_of m).sectors
  pub whole : length words ≡ (shape_of m).width

-- it handed no set to `stop`
abbrev pub IsGoing : PoolPart → Type 0
IsGoing pool = (at : ℕ) → pool.hand ≡ hand.Stopped at → ⊥

-- it may make one call more, with this set out
abbrev pub MayMakeOne : Option Kept → PoolPart → Type 0
MayMakeOne kept pool = (made_with kept < pool.left) × IsGoing pool

-- there is such an arena, what the session knows of it meets P, it may make one call more, and its calls may still be counted
pub record MayCallAt (s : Sectors) (place : ℕ) (P : ArenaPart → Type 0) (session : Session) : Type 0 where
  pub place_in : place < length s.arenas.items
  pub parts : Parts
  pub know : Know s session.number parts session
  pub pool : MayMakeOne session.kept know.pool
  pub may : P (parts place)
  pub calls : session.caller.call + 1 < 2 ^ 32

-- ---- the set of a call

-- of the power it knows what it knew, and it handed no set to `stop`
pub record KeepsPower (m m' : PoolPart) : Type 0 where
  pub first : m'.first ≡ m.first
  pub placed : m'.placed ≡ m.placed
  pub stop : m'.stop ≡ m.stop
  pub told : m'.told ≡ m.told
  pub going : (at : ℕ) → m'.hand ≡ hand.Stopped at → m.hand ≡ hand.Stopped at

-- it may make one call more, with this set out
pub record MayTakeSet (s : Sectors) (kept : Option Kept) (session : Session) : Type 0 where
  pub parts : Parts
  pub know : KnowWith s session.number parts 63 kept session
  pub pool : MayMakeOne kept know.pool

-- Of the calls that it may still make it made so many more; before and after it has counted so many with the set that it has out. Of the
-- power it knows what it knew.
pub record Spends (calls made made' : ℕ) (m m' : PoolPart) : Type 0 where
  pub power : KeepsPower m m'
  pub counted : m.left + made' ≡ m'.left + made + calls

-- all that it has but its set and its part of the pool is as before
pub record IsSameSession (session session' : Session) : Type 0 where
  pub number : session'.number ≡ session.number
  pub passes : session'.passes.items ≡ session.passes.items
  pub pool : IsSamePass session.caller.pool session'.caller.pool
  pub left : session'.caller.left ≡ session.caller.left
  pub steps : session'.caller.steps ≡ session.caller.steps
  pub call : session'.caller.call ≡ session.caller.call
  pub kept : session'.kept ≡ None

-- it got none: it was told that power is off
pub record IsRefused (session session' : Session) : Type 0 where
  pub none : session.kept ≡ None
  pub kept : session'.kept ≡ None
  pub passes : session'.passes.items ≡ session.passes.items
  pub outside : out_of session'.caller.pool ≡ None
  pub off : PowerOff
  pub told : PartBecomes (told_of off) session.caller.pool session'.caller.pool

-- ---- the lane of a call

-- a call may begin at a place: there is such an arena, and the session may make one call more
pub record MayBeginAt (s : Sectors) (place : ℕ) (session : Session) : Type 0 where
  pub place_in : place < length s.arenas.items
  pub parts : Parts
  pub know : Know s session.number parts session
  pub pool : MayMakeOne session.kept know.pool

-- the same, with this set out
pub record MayStart (s : Sectors) (place : ℕ) (kept : Kept) (session : Session) : Type 0 where
  pub place_in : place < length s.arenas.items
  pub parts : Parts
  pub know : KnowWith s session.number parts 63 (Some kept) session
  pub pool : MayMakeOne (Some kept) know.pool
  pub none : session.kept ≡ None

-- A call begins with this set out: now its lane at the place has left it, and has the session's pass and its fuse. The call is counted.
pub record Starts (s : Sectors) (place : ℕ) (parts : Parts) (kept kept' : Kept) (k : Kit) (session session' : Session) : Type 0 where
  pub on : IsOnLane s session.number parts place kept' k session'
  pub room : on.spare < spare_in k
  pub fuse : of_left k.fuse ≡ session.caller.left
  pub was_on : WasOn on.pool
  pub counted : kept'.made ≡ kept.made + 1

-- a call began: the session has a set out, and its lane at the place has the session's pass and its fuse
pub record Began (s : Sectors) (place : ℕ) (parts : Parts) (kept : Kept) (k : Kit) (session session' : Session) : Type 0 where
  pub on : IsOnLane s session.number parts place kept k session'
  pub room : on.spare < spare_in k
  pub fuse : of_left k.fuse ≡ session.caller.left
  pub was_on : WasOn on.pool
  pub spends : (m : PoolPart) → part_of session.caller.pool ≡ Some m → Spends 1 (made_with session.kept) kept.made m on.pool

-- the lane may be given back: it has room for as many calls as it must have then, and power was on as far as the session knows
pub record MayGiveBack (s : Sectors) (place : ℕ) (kept : Kept) (k : Kit) (session : Session) : Type 0 where
  pub q : ℕ
  pub parts : Parts
  pub on : IsOnLane s q parts place kept k session
  pub room : on.spare ≤ spare_in k
  pub was_on : WasOn on.pool

-- the lane may be handed in as it is
pub record MayHandIn (s : Sectors) (place : ℕ) (kept : Kept) (k : Kit) (session : Session) : Type 0 where
  pub q : ℕ
  pub parts : Parts
  pub on : IsOnLane s q parts place kept k session

-- the set may be put away: all its lanes are back
pub record MayPutAway (s : Sectors) (kept : Kept) (session : Session) : Type 0 where
  pub q : ℕ
  pub parts : Parts
  pub know : KnowWith s q parts 64 (Some kept) session
  pub none : session.kept ≡ None

-- ---- what it does

-- of a write that was cut: it is in flight
pub record IsOpenWrite (q call sector : ℕ) (words : List ℕ) (c : InCall) : Type 0 where
  pub tag_is : c.tag ≡ tag_by q call
  pub sector_is : c.sector ≡ sector
  pub act_is : c.act ≡ Some (act.Write words)
  pub open_still : c.entered ≡ false

-- a call more was answered: its entry stands
abbrev pub answered : Stand → CorePart → CorePart
answered s m = part (m.stands ++ s ∷ []) []

-- The steps of a write up to its store of the log entry, and up to its store of the map entry: those of the value, then the fifth and the
-- seventh of the nine of a commit.
abbrev pub log_steps : Shape → ℕ
log_steps x = stage_steps x + 5

abbrev pub map_steps : Shape → ℕ
map_steps x = stage_steps x + 7

-- A write that was cut after so many steps: nothing of it stands; or it is in flight, and they reach to its store of the log entry; or it
-- stands, and they reach to its store of the map entry.
abbrev pub IsStopped : ℕ → ℕ → ℕ → List ℕ → Shape → ℕ → CorePart → CorePart → Type 0
IsStopped q call sector words x made m m' =
    (m' ≡ m)
    ⊎ (((log_steps x ≤ made) × ((c : InCall) × IsOpenWrite q call sector words c × (m' ≡ part m.stands (c ∷ []))))
    ⊎ ((map_steps x ≤ made) × (m' ≡ answered (stand_at call sector (act.Write words)) m)))

abbrev pub after : ArenaPart → CorePart → ℕ → ArenaPart
after m mine made = record m { mine = mine; steps = m.steps + made }

-- What a call does to what the session knows: of this arena it knows mine, which goes as P says of an arena of its shape and so many
-- steps, and of no other anything else. The steps that lanes made for it went off the session's, exactly, and these are as many at least.
pub record Called (s : Sectors) (place : ℕ) (least : Shape → ℕ) (P : Shape → ℕ → CorePart → CorePart → Type 0) (parts : Parts) (session session' : Session) : Type 0 where
  pub mine : CorePart
  pub made : ℕ
  pub enough : least (shape_of (parts place)) ≤ made
  pub goes : P (shape_of (parts place)) made (parts place).mine mine
  pub paid : Fewer made session.caller.left session'.caller.left
  pub know : Know s session.number (with_part parts place (after (parts place) mine made)) session'

-- whatever the shape and the steps are
abbrev pub whichever : (CorePart → CorePart → Type 0) → Shape → ℕ → CorePart → CorePart → Type 0
whichever P x made = P

abbrev pub CallGoes : Sectors → ℕ → (Shape → ℕ) → (Shape → ℕ → CorePart → CorePart → Type 0) → Session → Session → Type 0
CallGoes s place least P session session' = (parts : Parts) → Know s session.number parts session → Called s place least P parts session session'

-- the least steps of a write
abbrev pub write_at_least : Shape → ℕ
write_at_least x = stage_steps x + 9

abbrev pub none_at_least : Shape → ℕ
none_at_least x = 0

abbrev pub one_at_least : Shape → ℕ
one_at_least x = 1

-- whether the session switched power off is as before
abbrev pub SwitchesNot : Session → Session → Type 0
SwitchesNot session session' = PartGoes (λ m m'. switched_by m'.stop ≡ switched_by m.stop) session.caller.pool session'.caller.pool

-- The session switched power off, with all its steps made; or not, as before.
abbrev pub StopsWhenSpent : Session → Session → Type 0
StopsWhenSpent session session' =
    SwitchesNot session session'
    ⊎ (HasPart (λ m. switched_by m.stop ≡ Some (record { who = who.Session session.number; steps = session.caller.steps })) session'.caller.pool × (session.caller.left ≢ None) × (session'.caller.left ≡ Some 0))

-- after a call the session has its number, and its next call the next number
pub record IsNextCall (session session' : Session) : Type 0 where
  pub number : session'.number ≡ session.number
  pub pool : IsSamePass session.caller.pool session'.caller.pool
  pub call : session'.caller.call ≡ session.caller.call + 1
  pub steps : session'.caller.steps ≡ session.caller.steps

-- a call was answered: of the calls that the session may make it made one more, and of the power it knows what it knew
abbrev pub SpendsOne : Session → Session → Type 0
SpendsOne session session' = PartGoes (Spends 1 (made_with session.kept) (made_with session'.kept)) session.caller.pool session'.caller.pool

-- the session rests: it keeps no set, and may make as many calls as before
pub record Rests (session session' : Session) : Type 0 where
  pub same : IsSameSession session session'
  pub pool : PartGoes (Spends 0 (made_with session.kept) 0) session.caller.pool session'.caller.pool
