-- A session's part of an arena: its own calls that stand, and its writes in flight.
use Rattle.std.specs.Prelude.{◌≡◌, ℕ, ◌<◌, ◌==◌, List, [], filter, map}
use Rattle.std.specs.List.{AllByRecursion}
use Rattle.lane_core.specs.declared.history.Act.{Act}
use Rattle.lane_core.specs.declared.history.Entry.{Entry}
use Rattle.lane_core.specs.declared.in_call.InCall.{InCall}
use Rattle.lane_core.specs.History.{of_session}
use Rattle.session_parts.specs.declared.parts.CorePart.{CorePart}
use Rattle.session_parts.specs.declared.parts.Stand.{Stand}

-- an entry without its lane
abbrev pub stand : Entry → Stand
stand e = record { call = e.tag.call; sector = e.sector; act = e.act }

abbrev pub stand_at : ℕ → ℕ → Act → Stand
stand_at call sector act = record { call = call; sector = sector; act = act }

-- a session's entries in a history, oldest first
abbrev pub own_stands : ℕ → List Entry → List Stand
own_stands q history = map stand (of_session q history)

-- its writes in flight
abbrev pub calls_by : ℕ → List InCall → List InCall
calls_by q calls = filter (λ c. c.tag.session == q) calls

abbrev pub part : List Stand → List InCall → CorePart
part stands calls = record { stands = stands; calls = calls }

abbrev pub part_by : List Entry → List InCall → ℕ → CorePart
part_by history calls q = part (own_stands q history) (calls_by q calls)

-- a session that is in no call may begin one under this number
pub record MayBegin (call : ℕ) (m : CorePart) : Type 0 where
  pub free : m.calls ≡ []
  pub later : AllByRecursion (λ s. s.call < call) m.stands
