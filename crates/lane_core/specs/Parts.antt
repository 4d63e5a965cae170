-- What a session knows of a core: the lanes that are in its calls, and its entries without a read
-- that isn't answered.
use Rattle.std.specs.Prelude.{◌≡◌, ◌≢◌, ℕ, ◌==◌, true, false, List, [], ◌∷◌, filter, slice_get, Some}
use Rattle.lane_core.specs.declared.history.Entry.{Entry}
use Rattle.lane_core.specs.declared.in_call.InCall.{InCall}
use Rattle.lane_core.specs.declared.now.LaneNow.{LaneNow}
use Rattle.lane_core.specs.Begins.{is_idle}
use Rattle.lane_core.specs.Held.{Held}
use Rattle.lane_core.specs.History.{of_session}
use Rattle.lane_core.specs.Invariant.{is_reading}
use Rattle.lane_core.specs.Schedules.{Asked, Read, Write, Step, held_after}
use Rattle.lane_core.specs.Sessions.{IsFree, OneCallEach, answered_in, calls_in, in_call, tag_of}

abbrev pub own_calls : ℕ → Held → List InCall
own_calls session held = filter (λ c. c.tag.session == session) (calls_in held)

abbrev pub own_entries : ℕ → Held → List Entry
own_entries session held = of_session session (answered_in held.lanes held.entries)

pub record SamePart (session : ℕ) (old new : Held) : Type 0 where
  pub calls : own_calls session new ≡ own_calls session old
  pub entries : own_entries session new ≡ own_entries session old

-- no call of the session begins, and the lane that steps isn't in one
abbrev pub IsOfOthers : ℕ → Held → Asked → Type 0
IsOfOthers session held (Read lane tag sector) = tag.session ≢ session
IsOfOthers session held (Write lane tag sector words) = tag.session ≢ session
IsOfOthers session held (Step lane) = (p : LaneNow) → slice_get held.lanes lane ≡ Some p → is_idle p.phase ≡ false → (tag_of p).session ≢ session

-- a law: the calls and steps of others change nothing that a session knows
abbrev pub OthersKeepParts : Type 0
OthersKeepParts = (held : Held) (asked : Asked) (session : ℕ) → IsOfOthers session held asked → SamePart session held (held_after held asked)

-- a law: A session that has one call at a time knows the one lane that is in it, and none between
-- its calls. All its entries are its own unless a lane loads the words of its read.
pub record OwnPartIsKnown : Type 0 where
  pub in_one : (held : Held) (l : ℕ) (p : LaneNow) → OneCallEach held.lanes → slice_get held.lanes l ≡ Some p → is_idle p.phase ≡ false → own_calls (tag_of p).session held ≡ in_call held.shape l p ∷ []
  pub in_none : (held : Held) (session : ℕ) → IsFree session held.lanes → own_calls session held ≡ []
  pub all_own : (held : Held) (session : ℕ) → ((i : ℕ) (p : LaneNow) → slice_get held.lanes i ≡ Some p → is_reading p.phase ≡ true → p.tag.session ≢ session) → own_entries session held ≡ of_session session held.entries
