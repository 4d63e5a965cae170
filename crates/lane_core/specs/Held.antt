-- What a core holds, as a value without its memory.
use Rattle.std.specs.Prelude.{ℕ, List}
use Rattle.lane_core.specs.declared.history.Entry.{Entry}
use Rattle.lane_core.specs.declared.machine.Core.{Core}
use Rattle.lane_core.specs.declared.now.LaneNow.{LaneNow}
use Rattle.lane_core.specs.declared.shape.Shape.{Shape}
use Rattle.lane_core.specs.Rows.{Recorded, RowWords}

pub record Held : Type 0 where
  pub shape : Shape
  pub row : RowWords
  pub lanes : List LaneNow
  pub entries : List Entry  -- the calls that stand, oldest first

-- all of a core but its info block and the room that it keeps for entries
abbrev pub held_by : Core → Held
held_by core = record { shape = core.shape; row = core.row; lanes = core.lanes.items; entries = core.history.entries }

-- a history with room for so many entries more
abbrev pub recorded : List Entry → ℕ → Recorded
recorded entries room = record { entries = entries; room = room }
