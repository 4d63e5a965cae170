-- The sectors of a namespace, numbered from arena to arena. UEFI 2.10, section 6.3 (BTT theory of operation).
use Rattle.std.specs.Prelude.{◌≡◌, ℕ, ◌+◌, ◌^◌, ◌<◌, ◌≤◌, List, length, take, map, replicate, sum_by, slice_index_or}
use Rattle.std.specs.List.{All, flat_map, range_with_len}
use Rattle.arena_open.specs.declared.state.ArenaState.{ArenaState}
use Rattle.arena_open.specs.declared.cell.Cell.{Cell}
use Rattle.arena_open.specs.Reading.{cell_at}
use Rattle.arena_open.specs.Moves.{IsOpenState}

-- the number of sectors of an arena
abbrev pub external_of : ArenaState → ℕ
external_of state = state.info.layout.external

abbrev pub sectors_of : List ArenaState → ℕ
sectors_of states = sum_by external_of states

-- the cells of an arena's sectors, in order
abbrev pub cells_of : ArenaState → List Cell
cells_of state = map (cell_at state.info.layout state.words) (range_with_len 0 state.info.layout.external)

-- the contents of a namespace: the cells of all sectors, arena by arena
unfoldable pub contents_of : List ArenaState → List Cell
contents_of states = flat_map cells_of states

-- the sizes of all sectors in bytes, arena by arena
unfoldable pub sizes_of : List ArenaState → List ℕ
sizes_of states = flat_map (λ state. replicate state.info.layout.external state.info.layout.sector) states

-- a sector of the namespace is sector `own` of arena k
pub record LiesIn (states : List ArenaState) (sector k own : ℕ) : Type 0 where
  pub there : k < length states
  pub is : sector ≡ sectors_of (take k states) + own
  pub inside : (d : ArenaState) → own < (slice_index_or states k d).info.layout.external

-- arenas as opening returns them
pub record AreOpen (states : List ArenaState) : Type 0 where
  pub each : All IsOpenState states
  pub few : length states ≤ 2 ^ 32
