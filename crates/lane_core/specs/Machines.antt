-- The core: what it keeps, and what one step does to it.
use Rattle.std.specs.Prelude.{◌≡◌, ℕ, ◌<◌, List, [], map, length, slice_set}
use Rattle.lane_core.specs.declared.machine.Core.{Core}
use Rattle.lane_core.specs.declared.now.LaneNow.{LaneNow}
use Rattle.lane_core.specs.declared.phase.Phase.TheVariants.{Idle}
use Rattle.lane_core.specs.declared.stepped.Stepped.{Stepped}
use Rattle.lane_core.specs.declared.stepped.Stepped.TheVariants as stepped
use Rattle.arena_open.specs.declared.state.ArenaState.{ArenaState}
use Rattle.lane_core.specs.Arenas.{areas_of, shape_in}
use Rattle.lane_core.specs.Cut.{AreLeft, IsCurrent, IsRecoverable}
use Rattle.lane_core.specs.Places.{geometry}
use Rattle.lane_core.specs.Idle.{idle_of}
use Rattle.lane_core.specs.Rows.{new_row}
use Rattle.lane_core.specs.History.{Cells}
use Rattle.lane_core.specs.Machine.{State}
use Rattle.lane_core.specs.After.{answer_after, lane_after, past_after, row_after}
use Rattle.lane_core.specs.Showing.{Shown, line_of}
use Rattle.lane_core.specs.Cores.{ShowsSound}

-- the core shows a state in which the invariant holds
abbrev pub IsCore : Cells → Core → Type 0
IsCore opening core = (s : State) × ShowsSound core.shape core.row core.lanes.items core.history opening s

-- the same, whatever its cells were at its opening
abbrev pub IsSomeCore : Core → Type 0
IsSomeCore core = (opening : Cells) × IsCore opening core

-- it still does, with the same cells at its opening
abbrev pub KeepsCore : Core → Core → Type 0
KeepsCore old new = (opening : Cells) → IsCore opening old → IsCore opening new

abbrev pub CoreShows : Core → State → Type 0
CoreShows core s = Shown core.shape core.row core.lanes.items core.history.entries s

-- one step of lane l, which was p
pub record StepsOnce (old new : Core) (l : ℕ) (p : LaneNow) (result : Stepped) : Type 0 where
  pub shape : new.shape ≡ old.shape
  pub info : new.info ≡ old.info
  pub row : new.row ≡ row_after old.shape l old.row p p.phase
  pub lanes : new.lanes.items ≡ slice_set old.lanes.items l (lane_after old.shape l old.row p p.phase)
  pub history : new.history ≡ past_after old.shape l old.row p old.history p.phase
  pub answer : result ≡ answer_after old.shape l old.row p p.phase
  pub line : (s : State) → CoreShows old s → CoreShows new (line_of old.shape s l p p.phase)  -- of every state that it showed
  pub nothing : result ≡ stepped.Nothing → p.phase ≡ Idle
  pub idle : p.phase ≡ Idle → result ≡ stepped.Nothing

-- a core of an arena before its first call
pub record IsFresh (state : ArenaState) (core : Core) : Type 0 where
  pub info : core.info ≡ state.info
  pub shape : core.shape ≡ shape_in state
  pub row : core.row ≡ new_row state.words state.info.layout.lanes
  pub lanes : core.lanes.items ≡ map idle_of state.lanes
  pub history : core.history.entries ≡ []

-- A core's words after a power cut: each word is the kept one or the seen one, each lane has one
-- current half, and whatever the core showed, opening recovers each sector as at the end of the
-- history or with the words of one write in flight.
pub record CutSurvives (core : Core) (left : List ℕ) : Type 0 where
  pub size : length left ≡ core.shape.total
  pub words : (s : State) → CoreShows core s → AreLeft (geometry core.shape) s.seen s.kept (areas_of core.shape left)
  pub current : (l : ℕ) → l < core.shape.lanes → (side : ℕ) × IsCurrent (areas_of core.shape left) l side
  pub recovers : (opening : Cells) (s : State) → ShowsSound core.shape core.row core.lanes.items core.history opening s → (sides : ℕ → ℕ)
      → ((l : ℕ) → l < core.shape.lanes → IsCurrent (areas_of core.shape left) l (sides l)) → IsRecoverable (geometry core.shape) opening s (areas_of core.shape left) sides
