-- An arena that was opened is open for lanes.
use Rattle.std.proofs.Common.{◌≡◌, ℕ, zero, suc, ◌+◌, ◌/◌, ◌<◌, List, [], ◌∷◌, length, get_or, Ok, refl, sym, ap, ◌∙◌, subst, arith}
use Rattle.std.proofs.lemmas.List.{get_or_append_left, get_or-append_right, length-append, length-map, get_or-map}
use Rattle.std.proofs.lemmas.List.FromFn.{get_or-map-range_with_len, length-map-range_with_len}
use Rattle.flog.specs.declared.group.Group.{Group}
use Rattle.flog.specs.declared.half.Half.{Half}
use Rattle.map_table.specs.Entry.{entry_of}
use Rattle.map_table.specs.Blocks.{blocks_from, blocks_of, NamesEachOnce}
use Rattle.arena_layout.specs.declared.layout.Layout.{Layout}
use Rattle.arena_layout.specs.Layout.{IsLayout}
use Rattle.arena_open.specs.declared.state.ArenaState.{ArenaState}
use Rattle.arena_open.specs.Reading.{entry_at, map_in, free_of, groups_in}
use Rattle.arena_open.specs.Moves.{IsOpenState, groups_of_lanes}
use Rattle.arena_open.proofs.OnceMore.{Apart, apart_once, block_index, length_blocks}
use Rattle.lane_core.specs.Areas.{Areas, mapped, block_in}
use Rattle.lane_core.specs.Invariant.{Sized}
use Rattle.lane_core.specs.Cut.{EachOnce, half_at}
use Rattle.lane_core.specs.Opening.{IsOpen}
use Rattle.lane_core.specs.Places.{geometry, shape_of}
use Rattle.lane_core.specs.Arenas.{areas_of, no_group, side_in, shape_in, areas_in, sides_in}
use Rattle.lane_core.proofs.Shapes.{long_sector}
use Rattle.lane_core.proofs.Groups.{LaneRead, lane_read, groups_each}

-- ---- numbers that stand once stand at one place

apart_index : (xs : List ℕ) (i j : ℕ) → Apart xs → i < length xs → j < length xs → get_or xs i 0 ≡ get_or xs j 0 → i ≡ j
apart_index [] i j h li lj e = absurd (omega arith)
apart_index (x ∷ xs) zero zero h li lj e = refl
apart_index (x ∷ xs) zero (suc j) h li lj e = absurd (h.0 j 0 (omega arith) (sym e))
apart_index (x ∷ xs) (suc i) zero h li lj e = absurd (h.0 i 0 (omega arith) e)
apart_index (x ∷ xs) (suc i) (suc j) h li lj e = ap suc (apart_index xs i j h.1 (omega arith) (omega arith) e)

once_index : (n : ℕ) (xs : List ℕ) (i j : ℕ) → NamesEachOnce n xs → i < length xs → j < length xs → get_or xs i 0 ≡ get_or xs j 0 → i ≡ j
once_index n xs i j h li lj e = apart_index xs i j (apart_once n xs h.below (λ b lt. omega (arith, h.once b lt))) li lj e

module _ (l : Layout) (words : List ℕ) (gs : List Group) (ok : IsLayout l) (groups : groups_in l words ≡ Ok gs) (once : NamesEachOnce l.internal (blocks_of (map_in l words) (free_of gs))) where
  abbrev all : List ℕ
  all = blocks_of (map_in l words) (free_of gs)

  abbrev areas : Areas
  areas = areas_of (shape_of l) words

  read : (k : ℕ) → k < l.lanes → LaneRead l words k (get_or gs k no_group)
  read k lt = lane_read l words k (get_or gs k no_group) ok.internal_is ((groups_each l words gs groups).1 k lt)

  map_length : length (blocks_from 0 (map_in l words)) ≡ l.external
  map_length = length_blocks 0 (map_in l words) ∙ length-map-range_with_len (entry_at l words) 0 l.external

  free_length : length (free_of gs) ≡ l.lanes
  free_length = length-map gs (λ g. g.half.old) ∙ (groups_each l words gs groups).0

  all_length : length all ≡ l.external + l.lanes
  all_length = omega (arith, length-append (blocks_from 0 (map_in l words)) (free_of gs), map_length, free_length)

  -- the block of a sector, and that of a lane
  sector_at : (s : ℕ) → s < l.external → get_or all s 0 ≡ mapped areas.map_at s
  unfolding block_in
  sector_at s lt =
      get_or_append_left (blocks_from 0 (map_in l words)) (free_of gs) 0 s (omega (arith, map_length))
      ∙ block_index 0 (map_in l words) s (omega (arith, length-map-range_with_len (entry_at l words) 0 l.external))
      ∙ ap (λ (e : ℕ). (entry_of e (0 + s)).block) (get_or-map-range_with_len (entry_at l words) 0 l.external s s 0 lt (omega arith))
      ∙ ap (λ (i : ℕ). (entry_of (entry_at l words s) i).block) (let e : 0 + s ≡ s = omega arith in e)

  lane_at : (k : ℕ) → k < l.lanes → get_or all (l.external + k) 0 ≡ (half_at areas k (side_in gs k)).old
  lane_at k lt =
      get_or-append_right (blocks_from 0 (map_in l words)) (free_of gs) l.external (l.external + k) 0 map_length (omega arith)
      ∙ ap (λ i. get_or (free_of gs) i 0) (omega arith)
      ∙ get_or-map (λ (g : Group). g.half.old) gs k no_group 0 (omega (arith, (groups_each l words gs groups).0, lt))
      ∙ ap (λ (h : Half). h.old) (read k lt).half

  in_all : (i : ℕ) → i < l.external + l.lanes → get_or all i 0 < l.external + l.lanes
  in_all i lt = subst (λ n. get_or all i 0 < n) ok.internal_is (once.below i 0 (omega (arith, all_length, lt)))

  same_place : (i j : ℕ) → i < l.external + l.lanes → j < l.external + l.lanes → get_or all i 0 ≡ get_or all j 0 → i ≡ j
  same_place i j li lj e = once_index l.internal all i j once (omega (arith, all_length, li)) (omega (arith, all_length, lj)) e

  each_once : EachOnce (geometry (shape_of l)) (mapped areas.map_at) (λ k. (half_at areas k (side_in gs k)).old)
  each_once = record {
    sector_in = λ s ls. subst (λ b. b < l.external + l.lanes) (sector_at s ls) (in_all s (omega arith));
    lane_in = λ k lk. subst (λ b. b < l.external + l.lanes) (lane_at k lk) (in_all (l.external + k) (omega arith));
    sector_once = λ s t ls lt e. same_place s t (omega arith) (omega arith) (sector_at s ls ∙ e ∙ sym (sector_at t lt));
    lane_once = λ k m lk lm e. let q : l.external + k ≡ l.external + m = same_place (l.external + k) (l.external + m) (omega arith) (omega arith) (lane_at k lk ∙ e ∙ sym (lane_at m lm)) in omega arith;
    apart = λ s k ls lk e. let q : s ≡ l.external + k = same_place s (l.external + k) (omega arith) (omega arith) (sector_at s ls ∙ e ∙ sym (lane_at k lk)) in omega arith;
  }

  some_words : 0 < l.sector / 8
  some_words = long_sector l.sector ok.sector

  pub open_areas : IsOpen (geometry (shape_of l)) areas (side_in gs)
  open_areas = record {
    geometry = record { width = some_words; lanes = ok.lanes_some; fits = omega (arith, ok.internal_is, ok.internal_few) };
    current = λ k lk. (read k lk).current;
    sized = λ k lk. subst (Sized (geometry (shape_of l))) (read k lk).half (read k lk).sized;
    once = each_once;
  }

pub state_open : (state : ArenaState) → IsOpenState state → IsOpen (geometry (shape_in state)) (areas_in state) (sides_in state)
state_open state h = open_areas state.info.layout state.words (groups_of_lanes state.lanes) h.sound.layout h.groups h.once
