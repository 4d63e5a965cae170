-- What a table is made from: the words of an opened arena, twice, and no reader and no lock.
use Rattle.std.specs.Prelude.{◌≡◌, ℕ, ◌+◌, ◌<◌, List, [], ◌∷◌, ◌++◌, length, replicate, slice_index_or, true, false}
use mathlib.Core.Option.{some}
use lib.ListN.{get_elem?}
use Rattle.atomic_table.specs.Seated.{TableId}
use Rattle.atomic_table.specs.Table.{Me}
use Rattle.arena_open.specs.declared.opened.LaneState.{LaneState}
use Rattle.arena_open.specs.declared.state.ArenaState.{ArenaState}
use Rattle.lane_core.specs.declared.phase.Phase.TheVariants.{Idle}
use Rattle.lane_core.specs.declared.shape.Shape.{Shape}
use Rattle.lane_core.specs.Arenas.{shape_in}
use Rattle.lane_core.specs.Cut.{half_at}
use Rattle.lane_core.specs.Opening.{IsOpen}
use Rattle.lane_core.specs.Places.{IsShape, geometry, reader_words}
use Rattle.lane_core.specs.Reopening.{first_cells}
use Rattle.lane_table.specs.declared.arena.Arena.{Arena}
use Rattle.lane_table.specs.declared.lanes.Lane.{Lane}
use Rattle.lane_table.specs.declared.table.Key.{Key}
use Rattle.lane_table.specs.declared.table.View.{View}
use Rattle.lane_table.specs.Conditions.{IsMine}
use Rattle.lane_table.specs.Kits.{IsAt, owned_in, loose_in}
use Rattle.lane_table.specs.Law.{areas_in, no_state, opening_of, words_of, opened_owned, first_loose, unmade_from, others}
use Rattle.lane_table.specs.Told.{blocks}

-- the row of a table of these words
abbrev pub row_of : Shape → List ℕ → List ℕ
row_of x words = words ++ words ++ replicate (reader_words x.lanes + x.lanes) 0

-- lane l of a list of lanes
abbrev pub lane_at : List LaneState → ℕ → LaneState
lane_at lanes l = slice_index_or lanes l no_state

-- an opened arena of this shape with these words and lanes
pub record IsOpenArena (x : Shape) (words : List ℕ) (lanes : List LaneState) : Type 0 where
  pub shape : IsShape x
  pub size : length words ≡ x.total
  pub count : length lanes ≡ x.lanes
  pub opens : IsOpen (geometry x) (areas_in x words) (λ l. (lane_at lanes l).group.side)
  pub halves : (l : ℕ) → l < x.lanes → (lane_at lanes l).group.half ≡ half_at (areas_in x words) l (lane_at lanes l).group.side
  pub free : (l : ℕ) → l < x.lanes → (lane_at lanes l).free ≡ (lane_at lanes l).group.half.old

-- a table is made of such an arena
abbrev pub IsBegun : Key → Type 0
IsBegun k = IsOpenArena k.shape (words_of k) k.lanes.value

-- an arena's table is made of this state
pub record IsMadeOf (state : ArenaState) (a : Arena) : Type 0 where
  pub shape : a.shape ≡ shape_in state
  pub words : words_of a.table.shared.key ≡ state.words
  pub lanes : a.table.shared.key.lanes.value ≡ state.lanes
  -- the history begins with the cells that a reader of the opened arena gets
  pub begins : opening_of a.table.shared.key ≡ first_cells state

-- ---- the lanes of a new table

-- a seat as `seated` takes it: one idle lane, which has answered no call
pub record IsNew {S : Type 0} (number : ℕ) (state : LaneState) (me : Me S View) : Type 0 where
  pub live : me.0.live ≡ true
  pub numbered : (me.0.number ≡ number) × (number < me.0.shape.lanes)
  pub alone : (me.0.rest ≡ []) × (me.1 ≡ [])
  pub log : me.0.lane.log ≡ []
  pub held : me.0.held ≡ []
  pub makes : number ≡ 0 → me.0.loose ≡ unmade_from 0 ∷ others me.0.loose
  pub phase : me.0.lane.phase ≡ Idle
  pub mine : IsMine (record { number = number; block = state.free; side = state.group.side; seq = state.group.half.seq }) me.0
  pub in_range : state.free < blocks me.0.shape

-- lane l of a new table
pub record IsFresh (table : TableId) (k : Key) (l : ℕ) (lane : Lane) : Type 0 where
  pub at : IsAt table k.shape lane.kit
  pub number : lane.kit.number ≡ l
  pub owned : owned_in lane.kit ≡ opened_owned k l
  -- lane 0 makes the sessions' passes, and has made none
  pub loose : loose_in lane.kit ≡ first_loose l
  pub made : lane.kit.made ≡ 0
  pub no_fuse : lane.kit.fuse.set ≡ false

-- each lane stands at its number
pub record AreFresh (table : TableId) (k : Key) (lanes : List Lane) : Type 0 where
  pub count : length lanes ≡ k.shape.lanes
  pub each : (l : ℕ) (lane : Lane) → get_elem? lanes l ≡ some lane → IsFresh table k l lane
