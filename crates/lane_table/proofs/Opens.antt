-- An arena that was opened is one whose lanes can share its words.
use Rattle.std.specs.Prelude.{IfOk}
use Rattle.std.proofs.Common.{◌≡◌, ℕ, ◌<◌, Result, Ok, Err, get_or, length, sym, ap, ◌∙◌, subst, arith}
use Rattle.std.proofs.lemmas.List.{length-map, get_or-map}
use Rattle.std.proofs.Math.ListN.{get_or-map as get_or-map_default}
use Rattle.flog.specs.declared.group.Group.{Group}
use Rattle.arena_layout.specs.declared.layout.Layout.{Layout}
use Rattle.arena_open.specs.declared.opened.LaneState.{LaneState}
use Rattle.arena_open.specs.declared.state.ArenaState.{ArenaState}
use Rattle.arena_open.specs.Moves.{IsOpenState, groups_of_lanes, lane_of}
use Rattle.lane_core.specs.declared.shape.Shape.{Shape}
use Rattle.lane_core.specs.Arenas.{no_group, shape_in}
use Rattle.lane_core.specs.Cut.{half_at}
use Rattle.lane_core.specs.Opening.{IsOpen}
use Rattle.lane_core.specs.Places.{geometry}
use Rattle.lane_core.proofs.Cells.{cells_are}
use Rattle.lane_core.proofs.Groups.{LaneRead, lane_read, groups_each}
use Rattle.lane_core.proofs.Openings.{state_open}
use Rattle.lane_core.proofs.Shapes.{shape_is}
use Rattle.lane_table.specs.declared.arena.Arena.{Arena}
use Rattle.lane_table.specs.Begun.{IsMadeOf, IsOpenArena, lane_at}
use Rattle.lane_table.specs.Law.{areas_in, cells_in, no_state, words_of}

module _ (state : ArenaState) (h : IsOpenState state) where
  abbrev l : Layout
  l = state.info.layout

  abbrev group : ℕ → Group
  group i = get_or (groups_of_lanes state.lanes) i no_group

  group_is : (i : ℕ) → group i ≡ (lane_at state.lanes i).group
  group_is i = get_or-map_default (λ (lane : LaneState). lane.group) state.lanes i no_state

  groups_count : length (groups_of_lanes state.lanes) ≡ l.lanes
  groups_count = (groups_each l state.words (groups_of_lanes state.lanes) h.groups).0

  read : (i : ℕ) → i < l.lanes → LaneRead l state.words i (group i)
  read i lt = lane_read l state.words i (group i) h.sound.layout.internal_is ((groups_each l state.words (groups_of_lanes state.lanes) h.groups).1 i lt)

  lane_is : (i : ℕ) → i < l.lanes → lane_at state.lanes i ≡ lane_of (group i)
  lane_is i lt = ap (λ lanes. get_or lanes i no_state) h.lanes ∙ get_or-map lane_of (groups_of_lanes state.lanes) i no_group no_state (omega (arith, groups_count, lt))

  pub opened_arena : IsOpenArena (shape_in state) state.words state.lanes
  opened_arena = record {
    shape = shape_is l h.sound.layout;
    size = h.count;
    count = sym (length-map state.lanes (λ (lane : LaneState). lane.group)) ∙ groups_count;
    opens = subst (IsOpen (geometry (shape_in state)) (areas_in (shape_in state) state.words)) (λ j i. ap (λ (g : Group). g.side) (group_is i) j) (state_open state h);
    halves = λ i lt. subst (λ (g : Group). g.half ≡ half_at (areas_in (shape_in state) state.words) i g.side) (group_is i) (read i lt).half;
    free = λ i lt. ap (λ (lane : LaneState). lane.free) (lane_is i lt) ∙ ap (λ (g : Group). g.half.old) (group_is i);
  }

-- its table's history begins with the cells that a reader gets
pub made_of : (state : ArenaState) (a : Arena) → a.shape ≡ shape_in state → words_of a.table.shared.key ≡ state.words → a.table.shared.key.lanes.value ≡ state.lanes → IsMadeOf state a
made_of state a shape words lanes = record {
  shape = shape;
  words = words;
  lanes = lanes;
  begins = ap (λ (x : Shape). cells_in x (words_of a.table.shared.key)) (a.shape_is ∙ shape) ∙ ap (cells_in (shape_in state)) words ∙ cells_are state;
}

pub made_if : {A E : Type 0} (arena : A → Arena) (state : ArenaState) (x : Shape) (r : Result A E) → x ≡ shape_in state
    → IfOk r (λ a. ((arena a).shape ≡ x) × (words_of (arena a).table.shared.key ≡ state.words) × ((arena a).table.shared.key.lanes.value ≡ state.lanes)) → IfOk r (λ a. IsMadeOf state (arena a))
made_if arena state x (Ok a) is h = made_of state (arena a) (h.0 ∙ is) h.1 h.2
made_if arena state x (Err e) is h = tt
