-- What a session may do yet on the first of its arenas.
use Rattle.std.specs.Prelude.{◌≡◌, ℕ, ◌+◌, ◌^◌, ◌<◌, ◌≤◌, length, None}
use Rattle.session_parts.specs.Parts.{MayBegin}
use Rattle.lane_calls.specs.declared.session.Sectors.{Sectors}
use Rattle.lane_calls.specs.declared.session.Session.{Session}
use Rattle.lane_calls.specs.Calls.{IsGoing}
use Rattle.lane_calls.specs.Sessions.{Know, Parts, made_with, shape_of}

-- The session may make n calls more there. Its sectors have 64 words each, and those up to 60 are there.
pub record MayCallMore (s : Sectors) (n : ℕ) (session : Session) : Type 0 where
  pub place_in : 0 < length s.arenas.items
  pub parts : Parts
  pub know : Know s session.number parts session
  pub going : IsGoing know.pool
  pub left : made_with session.kept + n ≤ know.pool.left
  pub may : MayBegin session.caller.call (parts 0).mine
  pub calls : session.caller.call + n < 2 ^ 32
  pub width : (shape_of (parts 0)).width ≡ 64
  pub sectors : 60 < (shape_of (parts 0)).sectors

-- the session is between two calls
abbrev pub IsBetween : Sectors → Session → Type 0
IsBetween s session = (parts : Parts) × Know s session.number parts session

-- it is, and keeps no set
abbrev pub IsResting : Sectors → Session → Type 0
IsResting s session = IsBetween s session × (session.kept ≡ None)
