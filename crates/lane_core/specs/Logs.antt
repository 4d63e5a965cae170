-- The log of a lane of a core.
use Rattle.std.specs.Prelude.{◌≡◌, ℕ, ◌-◌, length, take, Bool, true, false, List, [], ◌∷◌, ◌++◌, slice_get, Some}
use Rattle.lane_core.specs.declared.history.Entry.{Entry}
use Rattle.lane_core.specs.declared.machine.Core.{Core}
use Rattle.lane_core.specs.declared.now.LaneNow.{LaneNow}
use Rattle.lane_core.specs.History.{Cells, changes_nothing, of_lane}
use Rattle.lane_core.specs.Invariant.{is_reading}
use Rattle.lane_core.specs.Machine.{State}
use Rattle.lane_core.specs.Cores.{ShowsSound}

-- a lane's entries are its log, and then the read whose words it loads
abbrev pub EndsIn : Bool → List Entry → List Entry → LaneNow → Type 0
EndsIn false all log p = all ≡ log
EndsIn true all log p = (e : Entry) × (all ≡ log ++ e ∷ []) × (e.tag ≡ p.tag) × (e.sector ≡ p.sector) × (changes_nothing e.act ≡ true)

-- all elements but the last
abbrev pub but_last : {X : Type 0} → List X → List X
but_last xs = take (length xs - 1) xs

pub record IsLog (core : Core) (lane : ℕ) (log : List Entry) : Type 0 where
  pub entries : (p : LaneNow) → slice_get core.lanes.items lane ≡ Some p → EndsIn (is_reading p.phase) (of_lane lane core.history.entries) log p
  pub shown : (first : Cells) (s : State) → ShowsSound core.shape core.row core.lanes.items core.history first s → (s.lanes lane).log ≡ log  -- it is the lane's log in each state that the core shows
