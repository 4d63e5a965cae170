-- The words of an arena in memory, and the core that stands for it.
use Rattle.std.specs.Prelude.{ℕ, ◌+◌, ◌*◌, List, slice_index, slice_index_or}
use Rattle.flog.specs.declared.group.Group.{Group}
use Rattle.arena_open.specs.declared.state.ArenaState.{ArenaState}
use Rattle.arena_open.specs.Moves.{groups_of_lanes}
use Rattle.lane_core.specs.declared.shape.Shape.{Shape}
use Rattle.lane_core.specs.Areas.{Areas}
use Rattle.lane_core.specs.History.{Cells, cell_of}
use Rattle.lane_core.specs.Places.{geometry, shape_of}

-- the areas of an arena in its words
abbrev pub areas_of : Shape → List ℕ → Areas
areas_of x words = record {
  data_at = λ b k. slice_index words (x.data_at + b * x.inner + k);
  map_at = λ m. slice_index words (x.map_at + m);
  log_a = λ l side. slice_index words (x.log_at + 8 * l + 2 * side);
  log_b = λ l side. slice_index words (x.log_at + 8 * l + 2 * side + 1);
}

abbrev pub no_group : Group
no_group = record { side = 0; half = record { lba = 0; old = 0; new = 0; seq = 0 } }

-- the side of a lane's current half
abbrev pub side_in : List Group → ℕ → ℕ
side_in groups l = (slice_index_or groups l no_group).side

abbrev pub shape_in : ArenaState → Shape
shape_in state = shape_of state.info.layout

abbrev pub areas_in : ArenaState → Areas
areas_in state = areas_of (shape_in state) state.words

abbrev pub sides_in : ArenaState → ℕ → ℕ
sides_in state = side_in (groups_of_lanes state.lanes)

-- the cells of an arena that was opened
abbrev pub cells_in : ArenaState → Cells
cells_in state = cell_of (geometry (shape_in state)) (areas_in state).data_at (areas_in state).map_at
