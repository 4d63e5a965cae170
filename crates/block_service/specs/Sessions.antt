-- The sessions of the workers, before and after.
use Rattle.std.specs.Prelude.{◌≡◌, ℕ, List, [], length, None}
use mathlib.Core.Option.{some}
use lib.ListN.{get_elem?}
use Rattle.arena_open.specs.declared.state.ArenaState.{ArenaState}
use Rattle.lane_core.specs.Arenas.{shape_in}
use Rattle.session_parts.specs.declared.parts.Stand.{Stand}
use Rattle.lane_calls.specs.declared.session.Sectors.{Sectors}
use Rattle.lane_calls.specs.declared.session.Session.{Session}
use Rattle.bio_queue.specs.declared.bio.Completed.{Completed}
use Rattle.bio_queue.specs.Serving.{HasMade, MayMake, NeverSwitched}
use Rattle.bio_queue.specs.Standing.{stands_of}

-- session q is at its place; it made no call, may make so many, and never switched power off
abbrev pub AreBegun : Sectors → ArenaState → ℕ → List Session → Type 0
AreBegun s state calls sessions = (q : ℕ) (x : Session) → get_elem? sessions q ≡ some x
    → (x.number ≡ q) × MayMake s (shape_in state).sectors (shape_in state).width calls [] x × NeverSwitched x

-- session q is at its place; the calls that it made are the operations of row q, in order
pub record AreOver (s : Sectors) (rows : List (List Completed)) (sessions : List Session) : Type 0 where
  pub count : length sessions ≡ length rows
  pub each : (q : ℕ) (x : Session) (cs : List Completed) → get_elem? sessions q ≡ some x → get_elem? rows q ≡ some cs → (x.number ≡ q) × HasMade s (stands_of cs) x

-- it gave its set of lanes back, and made no call more
pub record IsRested (s : Sectors) (before after : Session) : Type 0 where
  pub number : after.number ≡ before.number
  pub kept : after.kept ≡ None
  pub made : (done : List Stand) → HasMade s done before → HasMade s done after

-- each session rests
pub record AreRested (s : Sectors) (before after : List Session) : Type 0 where
  pub count : length after ≡ length before
  pub each : (q : ℕ) (x y : Session) → get_elem? before q ≡ some x → get_elem? after q ≡ some y → IsRested s x y
