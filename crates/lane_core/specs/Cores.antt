-- A core that shows a state in which the invariant holds.
use Rattle.std.specs.Prelude.{◌≡◌, ℕ, ◌+◌, ◌≤◌, if◌then◌else◌, List, [], ◌∷◌, slice_get, Some}
use Rattle.lane_core.specs.declared.now.LaneNow.{LaneNow}
use Rattle.lane_core.specs.declared.phase.Phase.{Phase}
use Rattle.lane_core.specs.declared.shape.Shape.{Shape}
use Rattle.lane_core.specs.History.{Cells}
use Rattle.lane_core.specs.Machine.{State}
use Rattle.lane_core.specs.Invariant.{IsSound}
use Rattle.lane_core.specs.Places.{IsShape, geometry}
use Rattle.lane_core.specs.Rows.{RowWords, Recorded}
use Rattle.lane_core.specs.After.{owes_entry}
use Rattle.lane_core.specs.Ready.{IsFilled}
use Rattle.lane_core.specs.Showing.{Shown}

abbrev pub owed : Phase → ℕ
owed phase = if owes_entry phase then 1 else 0

-- how many lanes are in calls whose entry is still to come
abbrev pub owing : List LaneNow → ℕ
owing [] = 0
owing (p ∷ ps) = owed p.phase + owing ps

-- the core shows this state, and each lane has its words and the room for its entry
pub record ShowsSound (x : Shape) (row : RowWords) (lanes : List LaneNow) (past : Recorded) (opening : Cells) (s : State) : Type 0 where
  pub shape : IsShape x
  pub shown : Shown x row lanes past.entries s
  pub sound : IsSound (geometry x) opening s
  pub filled : (l : ℕ) (p : LaneNow) → slice_get lanes l ≡ Some p → IsFilled x p
  pub room : owing lanes ≤ past.room
