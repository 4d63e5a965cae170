-- A worker's session on the first of its arenas.
use Rattle.std.specs.Prelude.{◌≡◌, ℕ, ◌+◌, ◌^◌, ◌<◌, ◌≤◌, true, List, [], length, Option, None, ◌≢◌}
use Rattle.std.specs.List.{AllByRecursion}
use Rattle.session_parts.specs.declared.parts.Stand.{Stand}
use Rattle.session_parts.specs.Parts.{part, stand_at}
use Rattle.lane_pool.specs.Parts.{HasPart, IsTold, switched_by}
use Rattle.lane_calls.specs.declared.session.Sectors.{Sectors}
use Rattle.lane_calls.specs.declared.session.Session.{Session}
use Rattle.lane_calls.specs.Calls.{IsGoing}
use Rattle.lane_calls.specs.Sessions.{Know, Parts, made_with, shape_of}
use Rattle.bio_queue.specs.declared.op.Op.{Op}
use Rattle.bio_queue.specs.declared.op.OpReply.{OpReply}
use Rattle.bio_queue.specs.Ops.{act_of, fits_in, sector_of}

-- the session is between two calls; on the first arena it made these, in order, and no write of it is in flight
pub record HasMade (s : Sectors) (done : List Stand) (session : Session) : Type 0 where
  pub parts : Parts
  pub know : Know s session.number parts session
  pub mine : (parts 0).mine ≡ part done []

-- The same, and it may make n calls more there. The arena has so many sectors of so many words. The session never cuts power by itself, and
-- hasn't handed a set of lanes in.
pub record MayMake (s : Sectors) (sectors width n : ℕ) (done : List Stand) (session : Session) : Type 0 where
  pub place_in : 0 < length s.arenas.items
  pub made : HasMade s done session
  pub going : IsGoing made.know.pool
  pub left : made_with session.kept + n ≤ made.know.pool.left
  pub later : AllByRecursion (λ x. x.call < session.caller.call) done
  pub calls : session.caller.call + n < 2 ^ 32
  pub no_fuse : session.caller.left ≡ None
  pub sectors_are : (shape_of (made.parts 0)).sectors ≡ sectors
  pub width_is : (shape_of (made.parts 0)).width ≡ width

-- it never switched power off
abbrev pub NeverSwitched : Session → Type 0
NeverSwitched session = HasPart (λ m. switched_by m.stop ≡ None) session.caller.pool

-- A worker between two turns. It made these calls, and may make more until it made `limit` in all, if no operation of it is cut. One is cut only
-- if the worker was told that power is off.
pub record IsAtWork {T : Type 0} (s : Sectors) (sectors width limit : ℕ) (cut : Option T) (done : List Stand) (session : Session) : Type 0 where
  pub made : HasMade s done session
  pub may : cut ≡ None → (n : ℕ) → length done + n ≤ limit → MayMake s sectors width n done session
  pub told : cut ≢ None → IsTold session.caller.pool
  pub on : NeverSwitched session

-- it may make this operation, with so much room for the words that it reads
pub record MayPerform (s : Sectors) (op : Op) (room : ℕ) (session : Session) : Type 0 where
  pub sectors : ℕ
  pub width : ℕ
  pub done : List Stand
  pub may : MayMake s sectors width 1 done session
  pub fitting : fits_in sectors width op ≡ true
  pub room_is : room ≡ width

-- an operation with its reply, as the call with this number stands in the history
abbrev pub stand_of : ℕ → Op → OpReply → Stand
stand_of call op r = stand_at call (sector_of op) (act_of op r)
