-- What an open arena says of lane 0, and of the block that a sector has.
use Rattle.std.proofs.Common.{◌≡◌, ℕ, ◌+◌, ◌-◌, ◌*◌, ◌/◌, ◌^◌, ◌<◌, ◌≤◌, List, length, get_or, refl, sym, ap, ◌∙◌, subst, arith}
use Rattle.std.proofs.lemmas.List.{length-map, get_or-map}
use Rattle.flog.specs.declared.group.Group.{Group}
use Rattle.flog.specs.declared.half.Half.{Half}
use Rattle.flog.specs.Group.{other_side, place_of}
use Rattle.arena_layout.specs.declared.layout.Layout.{Layout}
use Rattle.arena_open.specs.declared.opened.LaneState.{LaneState}
use Rattle.arena_open.specs.declared.state.ArenaState.{ArenaState}
use Rattle.arena_open.specs.Moves.{IsOpenState, groups_of_lanes, lane_of}
use Rattle.lane_core.specs.Areas.{block_in, mapped}
use Rattle.lane_core.specs.Arenas.{areas_in, no_group, shape_in, sides_in}
use Rattle.lane_core.specs.Cut.{half_at}
use Rattle.lane_core.specs.Machine.{other}
use Rattle.lane_core.specs.Opening.{IsOpen}
use Rattle.lane_core.specs.Places.{IsShape, geometry}
use Rattle.lane_core.proofs.Groups.{LaneRead, groups_each, lane_read}
use Rattle.lane_core.proofs.Openings.{state_open}
use Rattle.lane_core.proofs.Places.{data_in, in_order}
use Rattle.lane_core.proofs.Shapes.{shape_is}
use Rattle.lane_alone.specs.Lone.{block_now, block_place, half_place, lane_zero, map_place, no_lane}

half_by_side : (at side : ℕ) → side < 2 → at + (8 * 0 + place_of (other_side side)) ≡ at + 2 * other side
unfolding place_of
half_by_side at side two = grind arith

module _ (state : ArenaState) (h : IsOpenState state) where
  abbrev l : Layout
  l = state.info.layout

  abbrev gs : List Group
  gs = groups_of_lanes state.lanes

  abbrev first : Group
  first = get_or gs 0 no_group

  pub some : 0 < state.info.layout.lanes
  some = let low = h.sound.layout.lanes_some in omega (arith, low)

  groups_count : length gs ≡ l.lanes
  groups_count = (groups_each l state.words gs h.groups).0

  pub some_lane : 0 < length state.lanes
  some_lane = let n : length gs ≡ length state.lanes = length-map state.lanes (λ (x : LaneState). x.group) in omega (arith, n, groups_count, some)

  lane_is : lane_zero state ≡ lane_of first
  lane_is = ap (λ (lanes : List LaneState). get_or lanes 0 no_lane) h.lanes ∙ get_or-map lane_of gs 0 no_group no_lane (omega (arith, groups_count, some))

  read : LaneRead l state.words 0 first
  read = lane_read l state.words 0 first h.sound.layout.internal_is ((groups_each l state.words gs h.groups).1 0 some)

  pub is_open : IsOpen (geometry (shape_in state)) (areas_in state) (sides_in state)
  is_open = state_open state h

  pub shape_ok : IsShape (shape_in state)
  shape_ok = shape_is state.info.layout h.sound.layout

  -- ---- lane 0

  pub side_is : (lane_zero state).group.side ≡ sides_in state 0
  side_is = ap (λ (a : LaneState). a.group.side) lane_is

  pub half_is : (lane_zero state).group.half ≡ half_at (areas_in state) 0 (sides_in state 0)
  half_is = ap (λ (a : LaneState). a.group.half) lane_is ∙ read.half

  pub free_is : (lane_zero state).free ≡ (half_at (areas_in state) 0 (sides_in state 0)).old
  free_is = ap (λ (a : LaneState). a.free) lane_is ∙ ap (λ (f : Half). f.old) read.half

  pub seq_is : (lane_zero state).group.half.seq ≡ (half_at (areas_in state) 0 (sides_in state 0)).seq
  seq_is = ap (λ (f : Half). f.seq) half_is

  pub side_two : (lane_zero state).group.side < 2
  side_two = subst (λ (s : ℕ). s < 2) (sym side_is) (is_open.current 0 some).two

  pub seq_low : 1 ≤ (lane_zero state).group.half.seq
  seq_low = let a = (is_open.current 0 some).newer.0 in omega (arith, a, seq_is)

  pub seq_high : (lane_zero state).group.half.seq ≤ 3
  seq_high = let a = (is_open.current 0 some).newer.1 in omega (arith, a, seq_is)

  pub free_in : (lane_zero state).free < state.info.layout.external + state.info.layout.lanes
  free_in = subst (λ (b : ℕ). b < state.info.layout.external + state.info.layout.lanes) (sym free_is) (is_open.once.lane_in 0 some)

  pub free_small : (lane_zero state).free < 2 ^ 30
  free_small = omega (arith, free_in, is_open.geometry.fits)

  -- ---- a sector

  pub block_is : (own : ℕ) → block_now state own ≡ mapped (areas_in state).map_at own
  unfolding block_in
  block_is own = refl

  pub block_below : (own : ℕ) → own < state.info.layout.external → block_now state own < state.info.layout.external + state.info.layout.lanes
  block_below own inside = subst (λ (b : ℕ). b < state.info.layout.external + state.info.layout.lanes) (sym (block_is own)) (is_open.once.sector_in own inside)

  pub block_small : (own : ℕ) → own < state.info.layout.external → block_now state own < 2 ^ 30
  block_small own inside = omega (arith, block_below own inside, is_open.geometry.fits)

  -- ---- the three runs, in the order in which they lie

  pub block_end : block_place state + state.info.layout.sector / 8 ≤ (shape_in state).map_at
  block_end =
      let w = is_open.geometry.width in
      let last : (shape_in state).data_at + (lane_zero state).free * (shape_in state).inner + ((shape_in state).width - 1) < (shape_in state).map_at =
      data_in (shape_in state) shape_ok (lane_zero state).free ((shape_in state).width - 1) free_in (omega (arith, w)) in
      omega (arith, last, w)

  pub map_end : (own : ℕ) → own < state.info.layout.external → map_place state own < (shape_in state).log_at
  map_end own inside = let m = shape_ok.map in omega (arith, m, inside)

  pub half_is_at : half_place state ≡ (shape_in state).log_at + 2 * other (sides_in state 0)
  half_is_at = ap (λ (s : ℕ). state.info.layout.flog_off / 8 + (8 * 0 + place_of (other_side s))) side_is ∙ half_by_side (state.info.layout.flog_off / 8) (sides_in state 0) (is_open.current 0 some).two

  pub half_end : half_place state + 2 ≤ length state.words
  half_end =
      let o = shape_ok.log in
      let two = (is_open.current 0 some).two in
      omega (arith, half_is_at, o, some, two, h.count)

  pub block_ends : block_place state + state.info.layout.sector / 8 ≤ length state.words
  block_ends = let o = in_order (shape_in state) shape_ok in omega (arith, block_end, o.1, o.2, h.count)

-- the code's number of the other side is the log's
pub other_place : (side : ℕ) → side < 2 → place_of (1 - side) ≡ 0 + place_of (other_side side)
unfolding place_of
other_place side two = grind arith
